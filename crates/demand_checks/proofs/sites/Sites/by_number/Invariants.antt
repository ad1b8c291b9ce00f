-- The rows of the numbers so far.
use Rattle.std.proofs.Common.{map}
use Rattle.demand_checks.proofs.Loops.{AreRows}
use Rattle.demand_checks.proofs.sites.Sites.by_number.Given as goal

abbrev pub invariant-loop-number : goal.invariant-loop-number
invariant-loop-number l = AreRows l.numbers l.number (map (λ row. row.items) l.rows.items)
