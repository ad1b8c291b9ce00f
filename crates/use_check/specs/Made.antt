-- The claims of rule V2 for a read of a variable: that the variable is made before.
use Rattle.std.specs.Prelude.{pos, List, [], ◌∷◌}
use Rattle.core_term.specs.Rules.{Claim, Order, begin_of, end_of}
use Rattle.demand_checks.specs.declared.place.Pair.{Pair}

abbrev pub made_claims : Pair → List Claim
made_claims read = Order (end_of read.second) (pos 0) (begin_of read.first) ∷ []

-- a read is its own record
abbrev pub own_pair : Pair → Pair
own_pair read = read
