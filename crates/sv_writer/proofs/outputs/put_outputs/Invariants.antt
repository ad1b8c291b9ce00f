-- The outputs of the ports so far were put whole.
use Rattle.std.proofs.Common.{flat_map, take, zip, length}
use Rattle.sv_tree.specs.Text.{out_lines}
use Rattle.sv_writer.proofs.Lines.{LinesPut}
use Rattle.sv_writer.proofs.outputs.put_outputs.Given as goal

abbrev pub invariant-loop-port : goal.invariant-loop-port
invariant-loop-port g l = LinesPut (g.W.Sink.held l.fn.out) (g.W.Sink.held l.out) (g.W.Sink.faults l.fn.out) (g.W.Sink.faults l.out) (flat_map (out_lines l.module) (take (length l.yielded) (zip l.module.ports l.module.outs)))
