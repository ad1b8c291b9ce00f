use Rattle.std.proofs.Common.{◌∙◌, sym, ap, map, arith}
use Rattle.expr_check.proofs.Named.{register_key}
use Rattle.expr_check.proofs.tables.RegisterTable.new.Goals as goal

pub invariant_of-result : goal.invariant_of-result
invariant_of-result c = (c.new-2.ensures.empty ∙ ap (map register_key) (sym c.new.ensures.items), rw c.new.ensures.items (omega arith))
