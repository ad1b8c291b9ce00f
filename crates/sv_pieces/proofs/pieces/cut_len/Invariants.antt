use Rattle.std.proofs.Common.{length, ◌-◌}
use Rattle.sv_lines.proofs.read.CutLoop.{Looked}
use Rattle.sv_pieces.proofs.pieces.cut_len.Given as goal

abbrev pub invariant-loop-count : goal.invariant-loop-count
invariant-loop-count l = Looked l.text l.count

abbrev pub decreases-loop-count : goal.decreases-loop-count
decreases-loop-count l = length l.text - l.count
