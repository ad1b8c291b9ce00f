-- The lines of a sent port are those of its value and of its `valid`.
use Rattle.sv_tree.specs.Text.{valid_assign_line}
use Rattle.sv_writer.proofs.Parts.{then_put, failed_before}
use Rattle.sv_writer.proofs.outputs.put_output.Goals as goal

pub returns-in_err-put_wire_assign-in-Sent : goal.returns-in_err-put_wire_assign-in-Sent
returns-in_err-put_wire_assign-in-Sent g c =
    rw c.in-Sent.is
    (failed_before (valid_assign_line c.args.module.now c.args.port.now c.in-Sent.valid) c.from_residual.result c.from_residual.ensures.0 c.in_err-put_wire_assign-in-Sent.ensures)

pub returns-in_ok-put_wire_assign-in-Sent : goal.returns-in_ok-put_wire_assign-in-Sent
returns-in_ok-put_wire_assign-in-Sent g c = rw c.in-Sent.is (then_put c.in_ok-put_wire_assign-in-Sent.ensures c.put_wire_assign-in-Sent-2.ensures)
