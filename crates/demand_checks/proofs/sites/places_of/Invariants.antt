-- The places so far, and those of what is left.
use Rattle.std.proofs.Common.{◌≡◌, ◌++◌, drop}
use Rattle.demand_checks.specs.Sites.{places_from}
use Rattle.demand_checks.proofs.sites.places_of.Given as goal

abbrev pub invariant-loop-place : goal.invariant-loop-place
invariant-loop-place l = l.places.items ++ places_from l.number l.place (drop l.place l.numbers) ≡ places_from l.number 0 l.numbers
