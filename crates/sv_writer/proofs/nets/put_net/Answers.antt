-- The lines of a net are its declaration and its `assign`.
use Rattle.sv_tree.specs.Text.{net_assign_line}
use Rattle.sv_writer.proofs.Parts.{then_put, failed_before}
use Rattle.sv_writer.proofs.nets.put_net.Goals as goal

pub returns-in_err-put_declaration : goal.returns-in_err-put_declaration
returns-in_err-put_declaration g c =
    failed_before (net_assign_line c.args.module.now c.args.place c.args.net.now) c.from_residual.result c.from_residual.ensures.0 c.in_err-put_declaration.ensures

pub returns : goal.returns
returns g c = then_put c.in_ok-put_declaration.ensures c.put_assign.ensures
