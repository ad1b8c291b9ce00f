-- The first refusal is that of the one check that fails while all before it hold; and there is none exactly where all
-- hold.
use Rattle.std.proofs.Common.{◌≡◌, ◌∙◌, Bool, true, false, List, [], ◌∷◌, ◌++◌, None, Some, refl, ap}
use Rattle.first_check.specs.Check.{Check, refused_by, first_refusal, AllHold, FailsFirst}
use Rattle.first_check.proofs.Walks.{head_holds, rest_holds}

fails_by : {Refusal : Type 0} (check : Check Refusal) (checks : List (Check Refusal)) (refusal : Refusal) (holds : Bool) → check.holds ≡ holds
    → refused_by holds check.refusal (first_refusal checks) ≡ Some refusal → (first_refusal checks ≡ Some refusal → FailsFirst checks refusal)
    → FailsFirst (check ∷ checks) refusal
fails_by check checks refusal true is some later =
    let rest = later some in
    record {
      before = check ∷ rest.before;
      check = rest.check;
      behind = rest.behind;
      joined = ap (λ all. check ∷ all) rest.joined;
      hold = (is, rest.hold);
      fails = rest.fails;
      refused = rest.refused;
    }
fails_by check checks refusal false is some later =
    record { before = []; check = check; behind = checks; joined = refl; hold = tt; fails = is; refused = cc }

pub fails_first : {Refusal : Type 0} (checks : List (Check Refusal)) (refusal : Refusal) → first_refusal checks ≡ Some refusal → FailsFirst checks refusal
fails_first [] refusal some = absurd cc
fails_first (check ∷ checks) refusal some = fails_by check checks refusal check.holds refl some (fails_first checks refusal)

first_by : {Refusal : Type 0} (before : List (Check Refusal)) (check : Check Refusal) (behind : List (Check Refusal)) → AllHold before → check.holds ≡ false
    → first_refusal (before ++ (check ∷ behind)) ≡ Some check.refusal
first_by [] check behind hold fails = rw fails refl
first_by (first ∷ before) check behind hold fails = rw (hold.0) (first_by before check behind hold.1 fails)

pub first_fails : {Refusal : Type 0} (checks : List (Check Refusal)) (refusal : Refusal) → FailsFirst checks refusal → first_refusal checks ≡ Some refusal
first_fails checks refusal first =
    ap first_refusal first.joined ∙ first_by first.before first.check first.behind first.hold first.fails ∙ ap Some first.refused

pub all_hold : {Refusal : Type 0} (checks : List (Check Refusal)) → first_refusal checks ≡ None → AllHold checks
all_hold [] none = tt
all_hold (check ∷ checks) none = (head_holds check checks none, all_hold checks (rest_holds check checks none))

pub none_refused : {Refusal : Type 0} (checks : List (Check Refusal)) → AllHold checks → first_refusal checks ≡ None
none_refused [] hold = refl
none_refused (check ∷ checks) hold = rw (hold.0) (none_refused checks hold.1)
