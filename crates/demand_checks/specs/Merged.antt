-- The violations of a thread from three lists: those of V2 and V6, those of V3 to V5, and those of V7 and V8.
use Rattle.std.specs.Prelude.{Bool, true, false, if◌then◌else◌, List, [], ◌∷◌, ◌++◌, ℕ}
use Rattle.core_term.specs.declared.rules.Rule.{Rule}
use Rattle.core_term.specs.declared.rules.Rule.TheVariants.{V2, V3, V4, V5, V6, V7, V8}
use Rattle.core_term.specs.declared.rules.Violation.{Violation}
use Rattle.core_term.specs.Process.{Process}
use Rattle.core_term.specs.Term.{Term}
use Rattle.demand_checks.specs.Found.{AreViolations}

abbrev pub all_rules : List Rule
all_rules = V2 ∷ V3 ∷ V4 ∷ V5 ∷ V6 ∷ V7 ∷ V8 ∷ []

abbrev pub is_made : Rule → Bool
is_made V2 = true
is_made V3 = false
is_made V4 = false
is_made V5 = false
is_made V6 = false
is_made V7 = false
is_made V8 = false

-- those of V2, and the others
abbrev pub made_of : List Violation → List Violation
made_of [] = []
made_of (one ∷ rest) = if is_made one.rule then one ∷ made_of rest else made_of rest

abbrev pub others_of : List Violation → List Violation
others_of [] = []
others_of (one ∷ rest) = if is_made one.rule then others_of rest else one ∷ others_of rest

abbrev pub merged : (uses sends loans : List Violation) → List Violation
merged uses sends loans = made_of uses ++ (sends ++ (others_of uses ++ loans))

-- The three lists, put in order of the rules, are the violations of the thread.
abbrev pub ListsMerge : Type 0
ListsMerge =
    (p : Process) (j : ℕ) (body : Term) (uses sends loans : List Violation) → AreViolations p j body (V2 ∷ V6 ∷ []) uses
    → AreViolations p j body (V3 ∷ V4 ∷ V5 ∷ []) sends → AreViolations p j body (V7 ∷ V8 ∷ []) loans
    → AreViolations p j body all_rules (merged uses sends loans)
