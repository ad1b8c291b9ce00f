-- What a search for the first item that passes a test tells.
use Rattle.std.proofs.Common.{◌≡◌, ℕ, ◌+◌, ◌<◌, Bool, true, false, cond, not, ◌||◌, List, [], ◌∷◌, length, Some, None, refl, sym, ◌∙◌, arith}
use Rattle.std.proofs.lemmas.Bool.Decides.{nat_tests}
use Rattle.std.specs.Prelude.{position, nat_lt}
use Rattle.std.specs.List.{list_any, position_or_len}

-- some item passes, and the first is at the place
pub record IsFound {X : Type 0} (test : X → Bool) (items : List X) (place : ℕ) : Type 0 where
  pub any : list_any test items ≡ true
  pub first : place ≡ position_or_len test items
  pub within : place < length items

none_by : {X : Type 0} (test : X → Bool) (item : X) (items : List X) (here : Bool) → test item ≡ here → (here || list_any test items) ≡ false
    → (list_any test items ≡ false → position_or_len test items ≡ length items) → cond (not here) (1 + position_or_len test items) 0 ≡ length (item ∷ items)
none_by test item items true is e later = absurd cc
none_by test item items false is e later = let found = later e in omega arith

none_passes : {X : Type 0} (test : X → Bool) (items : List X) → list_any test items ≡ false → position_or_len test items ≡ length items
none_passes test [] e = refl
none_passes test (item ∷ items) e = none_by test item items (test item) refl e (none_passes test items)

some_by : {X : Type 0} (test : X → Bool) (item : X) (items : List X) (here : Bool) → test item ≡ here → (here || list_any test items) ≡ true
    → (list_any test items ≡ true → position_or_len test items < length items) → cond (not here) (1 + position_or_len test items) 0 < length (item ∷ items)
some_by test item items true is e later = omega arith
some_by test item items false is e later = let found = later e in omega arith

some_passes : {X : Type 0} (test : X → Bool) (items : List X) → list_any test items ≡ true → position_or_len test items < length items
some_passes test [] e = absurd cc
some_passes test (item ∷ items) e = some_by test item items (test item) refl e (some_passes test items)

by_any : {X : Type 0} (test : X → Bool) (items : List X) (any : Bool) → list_any test items ≡ any → position test items ≡ cond any (Some (position_or_len test items)) None
by_any test items true e =
    let found = some_passes test items e in
    let below : nat_lt (position_or_len test items) (length items) ≡ true = grind (arith, nat_tests) in
    rw below refl
by_any test items false e =
    let all = none_passes test items e in
    let below : nat_lt (length items) (length items) ≡ false = grind (arith, nat_tests) in
    rw (all, below) refl

found_by : {X : Type 0} (test : X → Bool) (items : List X) (place : ℕ) (any : Bool) → list_any test items ≡ any → cond any (Some (position_or_len test items)) None ≡ Some place
    → IsFound test items place
found_by test items place true is e =
    let same : position_or_len test items ≡ place = cc in
    let within = some_passes test items is in
    record { any = is; first = sym same; within = omega arith }
found_by test items place false is e = absurd cc

pub found : {X : Type 0} (test : X → Bool) (items : List X) (place : ℕ) → Some place ≡ position test items → IsFound test items place
found test items place e = found_by test items place (list_any test items) refl (sym (e ∙ by_any test items (list_any test items) refl))

lost_by : {X : Type 0} (test : X → Bool) (items : List X) (any : Bool) → None ≡ cond any (Some (position_or_len test items)) None → any ≡ false
lost_by test items true e = absurd cc
lost_by test items false e = refl

pub lost : {X : Type 0} (test : X → Bool) (items : List X) → None ≡ position test items → list_any test items ≡ false
lost test items e = lost_by test items (list_any test items) (e ∙ by_any test items (list_any test items) refl)
