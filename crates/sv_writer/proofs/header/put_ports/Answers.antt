-- A put that fails does so inside the lines of one port.
use Rattle.std.proofs.Common.{arith}
use Rattle.sv_tree.specs.Text.{port_lines}
use Rattle.sv_writer.proofs.Lines.{line_failed}
use Rattle.sv_writer.proofs.header.put_ports.Goals as goal

pub returns-in_err-put_port : goal.returns-in_err-put_port
returns-in_err-put_port g c =
    let loop = c.loop-port in
    let items = c.ports-port-items in
    rw (← items.ensures.ports) (line_failed port_lines items.result.now loop.port-index c.port-item.result _ (g.W.Sink.held loop.out) _ _ _ _ _ _ (omega arith) c.port-item.is loop.invariant c.from_residual.ensures.0 c.in_err-put_port.ensures)
