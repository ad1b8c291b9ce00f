-- Reading on from here comes to what reading the whole comes to; the rest begins at its place, and the state is good.
use Rattle.std.proofs.Common.{length}
use Rattle.sv_reader.specs.SeenState.{state_of}
use Rattle.sv_lines.proofs.answer.ReadLines.{Stands}
use Rattle.sv_reader.proofs.reader.read_lines.Given as goal

abbrev pub invariant-loop-line : goal.invariant-loop-line
invariant-loop-line l = Stands l.fn.text l.rest (state_of l.reading)

abbrev pub decreases-loop-line : goal.decreases-loop-line
decreases-loop-line l = length l.rest
