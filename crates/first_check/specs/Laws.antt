-- What is proved of checks in order, over any type of refusals.
use Rattle.std.specs.Prelude.{◌≡◌, List, Some, None}
use Rattle.first_check.specs.Check.{Check, first_refusal, AllHold, FailsFirst}

-- The first refusal is that of a check that fails while all before it hold, and there is no other such refusal.
abbrev pub FirstRefusalFailsFirst : Type 0 → Type 0
FirstRefusalFailsFirst Refusal =
    (checks : List (Check Refusal)) (refusal : Refusal)
    → (first_refusal checks ≡ Some refusal → FailsFirst checks refusal)
    × (FailsFirst checks refusal → first_refusal checks ≡ Some refusal)

-- There is no first refusal exactly where all checks hold.
abbrev pub NoRefusalIsAllHold : Type 0 → Type 0
NoRefusalIsAllHold Refusal =
    (checks : List (Check Refusal))
    → (first_refusal checks ≡ None → AllHold checks)
    × (AllHold checks → first_refusal checks ≡ None)
