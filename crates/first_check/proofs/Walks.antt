-- Checks one after the other. Where the first ones hold, the later ones decide; what the first ones refuse is
-- refused; and where all together refuse nothing, no part refuses anything. Each is by recursion on the first checks.
use Rattle.std.proofs.Common.{◌≡◌, Bool, true, false, List, [], ◌∷◌, ◌++◌, Option, None, Some, refl}
use Rattle.first_check.specs.Check.{Check, refused_by, first_refusal, AllHold}

-- one check

pub held : {Refusal : Type 0} (holds : Bool) (refusal : Refusal) (later : Option Refusal) → refused_by holds refusal later ≡ None → holds ≡ true
held true refusal later none = refl
held false refusal later none = absurd cc

pub others_held : {Refusal : Type 0} (holds : Bool) (refusal : Refusal) (later : Option Refusal) → refused_by holds refusal later ≡ None → later ≡ None
others_held true refusal later none = none
others_held false refusal later none = absurd cc

-- the first of a list of checks holds

pub head_holds : {Refusal : Type 0} (check : Check Refusal) (checks : List (Check Refusal)) → first_refusal (check ∷ checks) ≡ None → check.holds ≡ true
head_holds check checks none = held check.holds check.refusal (first_refusal checks) none

pub rest_holds : {Refusal : Type 0} (check : Check Refusal) (checks : List (Check Refusal)) → first_refusal (check ∷ checks) ≡ None → first_refusal checks ≡ None
rest_holds check checks none = others_held check.holds check.refusal (first_refusal checks) none

-- where the first checks hold, the later ones decide
pub passes : {Refusal : Type 0} (checks others : List (Check Refusal)) → first_refusal checks ≡ None → first_refusal (checks ++ others) ≡ first_refusal others
passes [] others none = refl
passes (check ∷ checks) others none =
    let holds = head_holds check checks none in
    rw holds (passes checks others (rest_holds check checks none))

stops_by : {Refusal : Type 0} (holds : Bool) (refusal fault : Refusal) (one other : Option Refusal)
    → refused_by holds refusal one ≡ Some fault → (one ≡ Some fault → other ≡ Some fault) → refused_by holds refusal other ≡ Some fault
stops_by true refusal fault one other some later = later some
stops_by false refusal fault one other some later = some

-- what the first checks refuse is refused
pub stops : {Refusal : Type 0} (checks others : List (Check Refusal)) (fault : Refusal) → first_refusal checks ≡ Some fault → first_refusal (checks ++ others) ≡ Some fault
stops [] others fault some = absurd cc
stops (check ∷ checks) others fault some = stops_by check.holds check.refusal fault _ _ some (stops checks others fault)

first_by : {Refusal : Type 0} (holds : Bool) (refusal : Refusal) (one other : Option Refusal)
    → refused_by holds refusal other ≡ None → (other ≡ None → one ≡ None) → refused_by holds refusal one ≡ None
first_by true refusal one other none earlier = earlier none
first_by false refusal one other none earlier = none

-- where both parts together refuse nothing, the first part refuses nothing
pub first_passes : {Refusal : Type 0} (checks others : List (Check Refusal)) → first_refusal (checks ++ others) ≡ None → first_refusal checks ≡ None
first_passes [] others none = refl
first_passes (check ∷ checks) others none = first_by check.holds check.refusal _ _ none (first_passes checks others)

-- and neither does the second
pub second_passes : {Refusal : Type 0} (checks others : List (Check Refusal)) → first_refusal (checks ++ others) ≡ None → first_refusal others ≡ None
second_passes [] others none = none
second_passes (check ∷ checks) others none = second_passes checks others (rest_holds check (checks ++ others) none)

-- the same of all checks of a list

pub left_hold : {Refusal : Type 0} (checks others : List (Check Refusal)) → AllHold (checks ++ others) → AllHold checks
left_hold [] others hold = tt
left_hold (check ∷ checks) others hold = (hold.0, left_hold checks others hold.1)

pub right_hold : {Refusal : Type 0} (checks others : List (Check Refusal)) → AllHold (checks ++ others) → AllHold others
right_hold [] others hold = hold
right_hold (check ∷ checks) others hold = right_hold checks others hold.1
