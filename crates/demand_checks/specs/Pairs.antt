-- Pairs in order, each once, and as the violations of a rule.
use Rattle.std.specs.Prelude.{◌≡◌, ◌<◌, ◌⊎◌, List, [], ◌∷◌}
use Rattle.core_term.specs.declared.rules.Rule.{Rule}
use Rattle.core_term.specs.declared.rules.Violation.{Violation}
use Rattle.core_term.specs.Lists.{Has}
use Rattle.demand_checks.specs.declared.place.Pair.{Pair}

-- by the first site, then by the second
abbrev pub ComesFirst : Pair → Pair → Type 0
ComesFirst one other = (one.first < other.first) ⊎ ((one.first ≡ other.first) × (one.second < other.second))

-- in order, so none twice
abbrev pub AreAscending : List Pair → Type 0
AreAscending [] = Unit {0}
AreAscending (one ∷ rest) = ((other : Pair) → Has rest other → ComesFirst one other) × AreAscending rest

-- the same pairs, in order and each once
pub record AreSettled (old new : List Pair) : Type 0 where
  pub ascending : AreAscending new
  pub sound : (one : Pair) → Has new one → Has old one
  pub whole : (one : Pair) → Has old one → Has new one

abbrev pub violation : Rule → Pair → Violation
violation rule pair = record { rule = rule; first = pair.first; second = pair.second }
