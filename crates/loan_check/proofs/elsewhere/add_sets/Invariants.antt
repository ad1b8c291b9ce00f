-- What is left is still to be added.
use Rattle.std.proofs.Common.{◌≡◌, drop}
use Rattle.loan_check.specs.Elsewhere.{with_sets}
use Rattle.loan_check.proofs.elsewhere.add_sets.Given as goal

abbrev pub invariant-loop-deed : goal.invariant-loop-deed
invariant-loop-deed l = with_sets (drop l.deed-index l.deeds) l.registers.items ≡ with_sets l.deeds l.fn.registers.items
