-- The lines of the registers so far were put whole.
use Rattle.std.proofs.Common.{flat_map, take}
use Rattle.sv_tree.specs.Text.{register_line}
use Rattle.sv_writer.proofs.Lines.{LinesPut}
use Rattle.sv_writer.proofs.nets.put_registers.Given as goal

abbrev pub invariant-loop-register : goal.invariant-loop-register
invariant-loop-register g l = LinesPut (g.W.Sink.held l.fn.out) (g.W.Sink.held l.out) (g.W.Sink.faults l.fn.out) (g.W.Sink.faults l.out) (flat_map register_line (take l.register-index l.register-items))
