use Rattle.std.proofs.Common.{◌∙◌, ap, length, arith}
use Rattle.std.specs.List.{list_any}
use Rattle.core_term.specs.Limits.{most_registers}
use Rattle.expr_check.specs.Tables.{is_register_named}
use Rattle.expr_check.proofs.Named.{more_registers, one_more}
use Rattle.expr_check.proofs.tables.RegisterTable.with.Goals as goal

pub invariant_of-result : goal.invariant_of-result
invariant_of-result c =
    let registers = c.self.inside.registers.items in
    let keys = rw c.copy.ensures at c.in-Ok.ensures.keys in
    let fresh = ap (list_any (is_register_named c.args.register.name)) c.self.view_is ∙ c.requires.fresh in (
      rw (c.in-Ok-push.ensures) (keys ∙ more_registers registers c.self.inside.names.keys c.args.register c.self.invariant.0 fresh),
      rw (c.in-Ok-push.ensures) (one_more registers c.args.register most_registers (omega (arith, c.requires.room, ap length c.self.view_is))),
    )
