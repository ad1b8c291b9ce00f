-- The first violation of a thread, of some rules.
use Rattle.std.specs.Prelude.{ℕ, ◌≡◌, ◌⊎◌, List, Option, Some, None}
use Rattle.core_term.specs.declared.rules.Rule.{Rule}
use Rattle.core_term.specs.declared.rules.Violation.{Violation}
use Rattle.core_term.specs.Lists.{Has}
use Rattle.core_term.specs.Term.{Term}
use Rattle.core_term.specs.Process.{Process}
use Rattle.core_term.specs.Rules.{Claim, Holds, Demands, Meets}
use Rattle.demand_checks.specs.Found.{Fails, ComesEarlier}

abbrev pub violation : Rule → ℕ → ℕ → Violation
violation rule first second = record { rule = rule; first = first; second = second }

-- the thread keeps the demands of these rules
abbrev pub Keeps : Process → ℕ → Term → List Rule → Type 0
Keeps p j body rules =
    (rule : Rule) → Has rules rule → (first second : ℕ) (claim : Claim) → Demands p j body rule first second claim
    → Holds p body claim

-- a demand with this record fails, and each other one that fails comes later
pub record IsFirst (p : Process) (j : ℕ) (body : Term) (rules : List Rule) (one : Violation) : Type 0 where
  pub fails : Fails p j body one.rule one.first one.second
  pub first : (rule : Rule) → Has rules rule → (first second : ℕ) → Fails p j body rule first second
      → (violation rule first second ≡ one) ⊎ ComesEarlier one (violation rule first second)

-- the first violation of these rules, or none
abbrev pub IsFirstOf : Process → ℕ → Term → List Rule → Option Violation → Type 0
IsFirstOf p j body rules None = Keeps p j body rules
IsFirstOf p j body rules (Some one) = IsFirst p j body rules one

-- of all rules
pub record IsFirstOfAll (p : Process) (j : ℕ) (body : Term) (one : Violation) : Type 0 where
  pub fails : Fails p j body one.rule one.first one.second
  pub first : (rule : Rule) (first second : ℕ) → Fails p j body rule first second
      → (violation rule first second ≡ one) ⊎ ComesEarlier one (violation rule first second)

abbrev pub IsFirstOfThread : Process → ℕ → Term → Option Violation → Type 0
IsFirstOfThread p j body None = Meets p j body
IsFirstOfThread p j body (Some one) = IsFirstOfAll p j body one
