-- Checks in the order of the text. Each has a test that says whether it holds, and the refusal that comes where it
-- fails.
use Rattle.std.specs.Prelude.{◌≡◌, ⊤, Bool, true, false, List, [], ◌∷◌, ◌++◌, Option, Some, None}

pub record Check (Refusal : Type 0) : Type 0 where
  pub holds : Bool
  pub refusal : Refusal

-- the test has to hold, else that is the refusal
abbrev pub must : {Refusal : Type 0} → Bool → Refusal → Check Refusal
must holds refusal = record { holds = holds; refusal = refusal }

-- what a check refuses, ahead of what later ones refuse
abbrev pub refused_by : {Refusal : Type 0} → Bool → Refusal → Option Refusal → Option Refusal
refused_by true refusal later = later
refused_by false refusal later = Some refusal

-- the refusal of the first check that fails, and none where all hold
abbrev pub first_refusal : {Refusal : Type 0} → List (Check Refusal) → Option Refusal
first_refusal [] = None
first_refusal (check ∷ checks) = refused_by check.holds check.refusal (first_refusal checks)

-- all checks hold
abbrev pub AllHold : {Refusal : Type 0} → List (Check Refusal) → Type 0
AllHold [] = ⊤
AllHold (check ∷ checks) = (check.holds ≡ true) × AllHold checks

-- some check fails with the refusal, and all before it hold
pub record FailsFirst {Refusal : Type 0} (checks : List (Check Refusal)) (refusal : Refusal) : Type 0 where
  pub before : List (Check Refusal)
  pub check : Check Refusal
  pub behind : List (Check Refusal)
  pub joined : checks ≡ before ++ (check ∷ behind)
  pub hold : AllHold before
  pub fails : check.holds ≡ false
  pub refused : check.refusal ≡ refusal
