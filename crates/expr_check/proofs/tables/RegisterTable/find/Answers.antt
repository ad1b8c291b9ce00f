use Rattle.std.proofs.Common.{◌∙◌}
use Rattle.expr_check.proofs.Named.{register_found}
use Rattle.expr_check.proofs.tables.RegisterTable.find.Goals as goal

pub returns : goal.returns
returns c =
    c.get_index_of.ensures.index
    ∙ register_found c.self.inside.registers.items c.args.self.now c.self.inside.names.keys c.args.name.now c.self.invariant.0 c.self.view_is
