-- The header is its opening, the wires of the ports and its end.
use Rattle.std.proofs.Common.{◌++◌, flat_map}
use Rattle.sv_tree.specs.Text.{port_lines, closing_line}
use Rattle.sv_writer.proofs.Parts.{then_put, failed_before}
use Rattle.sv_writer.proofs.header.put_header.Goals as goal

pub returns-in_err-put_opening : goal.returns-in_err-put_opening
returns-in_err-put_opening g c =
    failed_before (flat_map port_lines c.args.module.now.ports ++ closing_line) c.from_residual.result c.from_residual.ensures.0 c.in_err-put_opening.ensures

pub returns-in_err-put_ports : goal.returns-in_err-put_ports
returns-in_err-put_ports g c =
    then_put c.in_ok-put_opening.ensures
    (failed_before closing_line c.from_residual-in_err-put_ports.result c.from_residual-in_err-put_ports.ensures.0 c.in_err-put_ports.ensures)

pub returns : goal.returns
returns g c = then_put c.in_ok-put_opening.ensures (then_put c.in_ok-put_ports.ensures c.put_all.ensures)
