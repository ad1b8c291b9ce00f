-- The line is cut before its operator and behind it.
use Rattle.std.proofs.Common.{◌++◌, append_assoc, codes}
use Rattle.sv_tree.specs.Text.{op_text}
use Rattle.sv_writer.proofs.Parts.{then_put, failed_before}
use Rattle.sv_writer.proofs.nets.put_assign.Goals as goal

pub returns-in_err-put_pieces : goal.returns-in_err-put_pieces
returns-in_err-put_pieces g c =
    simp append_assoc at (failed_before (op_text c.args.module.now c.args.net.now.op ++ codes ";\n") c.from_residual.result c.from_residual.ensures.0 c.in_err-put_pieces.ensures)

pub returns-in_err-put_op : goal.returns-in_err-put_op
returns-in_err-put_op g c =
    simp append_assoc at
    (then_put c.in_ok-put_pieces.ensures
    (failed_before (codes ";\n") c.from_residual-in_err-put_op.result c.from_residual-in_err-put_op.ensures.0 c.in_err-put_op.ensures))

pub returns : goal.returns
returns g c = simp append_assoc at (then_put c.in_ok-put_pieces.ensures (then_put c.in_ok-put_op.ensures c.put_all.ensures))
