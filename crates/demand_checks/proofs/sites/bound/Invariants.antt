-- Each number is below the bound or is left.
use Rattle.std.proofs.Common.{drop}
use Rattle.demand_checks.proofs.Loops.{Bounded}
use Rattle.demand_checks.proofs.sites.bound.Given as goal

abbrev pub invariant-loop-number : goal.invariant-loop-number
invariant-loop-number l = Bounded l.numbers (drop l.number-index l.numbers) l.bound
