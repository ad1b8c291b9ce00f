-- The next values of the registers so far were put whole.
use Rattle.std.proofs.Common.{flat_map, take, zip, length}
use Rattle.sv_tree.specs.Text.{next_line}
use Rattle.sv_writer.proofs.Lines.{LinesPut}
use Rattle.sv_writer.proofs.clock.put_nexts.Given as goal

abbrev pub invariant-loop-register : goal.invariant-loop-register
invariant-loop-register g l = LinesPut (g.W.Sink.held l.fn.out) (g.W.Sink.held l.out) (g.W.Sink.faults l.fn.out) (g.W.Sink.faults l.out) (flat_map (next_line l.module) (take (length l.yielded) (zip l.module.regs l.module.nexts)))
