-- The violations of one thread of a process, of some rules: the records of the demands that fail.
use Rattle.std.specs.Prelude.{ℕ, ◌≡◌, ◌<◌, ◌⊎◌, List, [], ◌∷◌, ◌++◌}
use Rattle.core_term.specs.declared.rules.Rule.{Rule}
use Rattle.core_term.specs.declared.rules.Violation.{Violation}
use Rattle.core_term.specs.Lists.{Has}
use Rattle.core_term.specs.Process.{Process}
use Rattle.core_term.specs.Term.{Term}
use Rattle.core_term.specs.Rules.{Claim, Holds, Demands}
use Rattle.core_term.specs.Violations.{rule_number}
use Rattle.demand_checks.specs.declared.place.Pair.{Pair}

-- by rule, then by the first site, then by the second
abbrev pub ComesEarlier : Violation → Violation → Type 0
ComesEarlier one other =
    (rule_number one.rule < rule_number other.rule)
    ⊎ ((one.rule ≡ other.rule)
    × ((one.first < other.first) ⊎ ((one.first ≡ other.first) × (one.second < other.second))))

-- in order, so none twice
abbrev pub IsAscending : List Violation → Type 0
IsAscending [] = Unit {0}
IsAscending (one ∷ rest) = ((other : Violation) → Has rest other → ComesEarlier one other) × IsAscending rest

-- a demand of the thread j of the process, with the body, that has this record does not hold
pub record Fails (p : Process) (j : ℕ) (body : Term) (rule : Rule) (first second : ℕ) : Type 0 where
  pub claim : Claim
  pub demanded : Demands p j body rule first second claim
  pub fails : Holds p body claim → ⊥

-- each record is of a demand of these rules that fails, each demand of these rules holds or has its record
pub record AreViolations (p : Process) (j : ℕ) (body : Term) (rules : List Rule) (violations : List Violation)
    : Type 0 where
  pub sound : (one : Violation) → Has violations one → Has rules one.rule × Fails p j body one.rule one.first one.second
  pub whole : (rule : Rule) → Has rules rule → (first second : ℕ) (claim : Claim)
      → Demands p j body rule first second claim
      → Holds p body claim ⊎ Has violations (record { rule = rule; first = first; second = second })
  pub ascending : IsAscending violations

-- the records of one rule, in any order
pub record AreFound (p : Process) (j : ℕ) (body : Term) (rule : Rule) (pairs : List Pair) : Type 0 where
  pub sound : (one : Pair) → Has pairs one → Fails p j body rule one.first one.second
  pub whole : (first second : ℕ) (claim : Claim) → Demands p j body rule first second claim
      → Holds p body claim ⊎ Has pairs (record { first = first; second = second })

-- the rules come before this one
abbrev pub AllEarlier : List Rule → Rule → Type 0
AllEarlier rules rule = (other : Rule) → Has rules other → rule_number other < rule_number rule

-- adding the records of a rule to a list: where the old one is that of some rules, all before this one, the new one is
-- that of these rules and this one
abbrev pub AddsRule : Rule → List Pair → (old new : List Violation) → Type 0
AddsRule rule pairs old new =
    (p : Process) (j : ℕ) (body : Term) (rules : List Rule) → AreViolations p j body rules old
    → AreFound p j body rule pairs → AllEarlier rules rule → AreViolations p j body (rules ++ rule ∷ []) new
