-- Which of some items have a claim that is not shown.
use Rattle.std.specs.Prelude.{if◌then◌else◌, List, [], ◌∷◌}
use Rattle.core_term.specs.Rules.{Claim}
use Rattle.demand_checks.specs.declared.place.Pair.{Pair}
use Rattle.demand_checks.specs.Answers.{Answers, all_shown}

-- the records of those items, where each item has a record and some claims
abbrev pub unshown : {X : Type 0} → (X → Pair) → (X → List Claim) → Answers → List X → List Pair
unshown pair_of claims_of answers [] = []
unshown pair_of claims_of answers (item ∷ rest) =
    if all_shown answers (claims_of item) then unshown pair_of claims_of answers rest
    else pair_of item ∷ unshown pair_of claims_of answers rest
