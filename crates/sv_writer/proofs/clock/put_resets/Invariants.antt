-- The resets so far were put whole.
use Rattle.std.proofs.Common.{flat_map, take}
use Rattle.sv_tree.specs.Text.{reset_line}
use Rattle.sv_writer.proofs.Lines.{LinesPut}
use Rattle.sv_writer.proofs.clock.put_resets.Given as goal

abbrev pub invariant-loop-register : goal.invariant-loop-register
invariant-loop-register g l = LinesPut (g.W.Sink.held l.fn.out) (g.W.Sink.held l.out) (g.W.Sink.faults l.fn.out) (g.W.Sink.faults l.out) (flat_map reset_line (take l.register-index l.register-items))
