-- The violations of the pairs so far stand at the end.
use Rattle.std.proofs.Common.{◌≡◌, ◌++◌, map}
use Rattle.std.proofs.Math.ListN.{take}
use Rattle.demand_checks.specs.Pairs.{violation}
use Rattle.demand_checks.proofs.listing.add_all.Given as goal

abbrev pub invariant-loop-pair : goal.invariant-loop-pair
invariant-loop-pair l = l.violations.items ≡ l.fn.violations.items ++ map (violation l.rule) (take l.pair-index l.pairs)
