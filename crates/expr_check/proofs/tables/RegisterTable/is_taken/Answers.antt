use Rattle.std.proofs.Common.{◌∙◌}
use Rattle.expr_check.proofs.Named.{register_among, name_among}
use Rattle.expr_check.proofs.tables.RegisterTable.is_taken.Goals as goal

pub returns-clause-taken : goal.returns-clause-taken
returns-clause-taken c =
    c.contains.ensures
    ∙ register_among c.self.inside.registers.items c.args.self.now c.self.inside.names.keys c.args.name.now c.self.invariant.0 c.self.view_is

pub returns-clause-among : goal.returns-clause-among
returns-clause-among c =
    c.contains.ensures
    ∙ name_among c.self.inside.registers.items c.args.self.now c.self.inside.names.keys c.args.name.now c.self.invariant.0 c.self.view_is
