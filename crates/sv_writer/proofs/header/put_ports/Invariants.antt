-- The lines of the ports so far were put whole.
use Rattle.std.proofs.Common.{flat_map, take}
use Rattle.sv_tree.specs.Text.{port_lines}
use Rattle.sv_writer.proofs.Lines.{LinesPut}
use Rattle.sv_writer.proofs.header.put_ports.Given as goal

abbrev pub invariant-loop-port : goal.invariant-loop-port
invariant-loop-port g l = LinesPut (g.W.Sink.held l.fn.out) (g.W.Sink.held l.out) (g.W.Sink.faults l.fn.out) (g.W.Sink.faults l.out) (flat_map port_lines (take l.port-index l.port-items))
