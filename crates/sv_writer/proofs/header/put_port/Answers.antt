-- The lines of a port are those of its three wires.
use Rattle.std.proofs.Common.{◌++◌}
use Rattle.sv_tree.specs.Text.{valid_line, ack_line}
use Rattle.sv_writer.proofs.Parts.{then_put, failed_before}
use Rattle.sv_writer.proofs.header.put_port.Goals as goal

pub returns-in_err-put_data : goal.returns-in_err-put_data
returns-in_err-put_data g c =
    failed_before (valid_line c.args.port.now ++ ack_line c.args.port.now) c.from_residual.result c.from_residual.ensures.0 c.in_err-put_data.ensures

pub returns-in_err-put_wire_line : goal.returns-in_err-put_wire_line
returns-in_err-put_wire_line g c =
    then_put c.in_ok-put_data.ensures
    (failed_before (ack_line c.args.port.now) c.from_residual-in_err-put_wire_line.result c.from_residual-in_err-put_wire_line.ensures.0 c.in_err-put_wire_line.ensures)

pub returns : goal.returns
returns g c = then_put c.in_ok-put_data.ensures (then_put c.in_ok-put_wire_line.ensures c.put_wire_line-2.ensures)
