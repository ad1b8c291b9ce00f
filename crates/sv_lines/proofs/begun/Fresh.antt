-- A message that no port has. Of as many different names as a list is long, and one more, one is not in the list: where the
-- name found for the rest of the list is its first item, look among all others. The names are `m` followed by a number.
use Rattle.std.proofs.Common.{◌≡◌, ℕ, zero, suc, ◌+◌, ◌<◌, Bool, true, false, List, [], ◌∷◌, length, refl, sym, ◌∙◌, arith}
use Rattle.std.proofs.lemmas.Bool.Decides.{nat_tests}
use Rattle.std.specs.Prelude.{nat_lt, bytes_eq}
use Rattle.std.specs.List.{list_any}
use Rattle.sv_lines.proofs.read.Decided.{bytes_same}

-- All numbers but one.

abbrev skip_by : (before : Bool) → ℕ → ℕ
skip_by true j = j
skip_by false j = j + 1

abbrev skip : (left_out j : ℕ) → ℕ
skip left_out j = skip_by (nat_lt j left_out) j

skipped_by : (left_out j : ℕ) (before : Bool) → nat_lt j left_out ≡ before → skip_by before j ≡ left_out → ⊥
skipped_by left_out j true is same = grind (arith, nat_tests)
skipped_by left_out j false is same = grind (arith, nat_tests)

skipped : (left_out j : ℕ) → skip left_out j ≡ left_out → ⊥
skipped left_out j same = skipped_by left_out j (nat_lt j left_out) refl same

once_by : (left_out i j : ℕ) (i_before j_before : Bool) → nat_lt i left_out ≡ i_before → nat_lt j left_out ≡ j_before → skip_by i_before i ≡ skip_by j_before j → i ≡ j
once_by left_out i j true true is_i is_j same = same
once_by left_out i j true false is_i is_j same = grind (arith, nat_tests)
once_by left_out i j false true is_i is_j same = grind (arith, nat_tests)
once_by left_out i j false false is_i is_j same = omega arith

skip_once : (left_out i j : ℕ) → skip left_out i ≡ skip left_out j → i ≡ j
skip_once left_out i j same = once_by left_out i j (nat_lt i left_out) (nat_lt j left_out) refl refl same

below_by : (j bound : ℕ) (before : Bool) → suc j < bound → skip_by before j < bound
below_by j bound true below = omega arith
below_by j bound false below = omega arith

-- Names that are different below a bound.
pub record Different (name : ℕ → List ℕ) (bound : ℕ) : Type 0 where
  pub differ : (i j : ℕ) → i < bound → j < bound → name i ≡ name j → i ≡ j

pub record Free (name : ℕ → List ℕ) (items : List (List ℕ)) (bound : ℕ) : Type 0 where
  pub number : ℕ
  pub below : number < bound
  pub is_free : list_any (bytes_eq (name number)) items ≡ false

others : (name : ℕ → List ℕ) (bound left_out : ℕ) → Different name (suc bound) → Different (λ j. name (skip left_out j)) bound
others name bound left_out different = record {
  differ = λ i j i_below j_below same.
      skip_once left_out i j
      (different.differ (skip left_out i) (skip left_out j) (below_by i (suc bound) (nat_lt i left_out) (omega arith)) (below_by j (suc bound) (nat_lt j left_out) (omega arith)) same);
}

not_same : (one other : List ℕ) (there : Bool) → bytes_eq one other ≡ there → (one ≡ other → ⊥) → bytes_eq one other ≡ false
not_same one other true is differ = absurd (differ (bytes_same one other is))
not_same one other false is differ = is

free_by : (name : ℕ → List ℕ) (item : List ℕ) (items : List (List ℕ)) (bound : ℕ) → Different name (suc bound) → (found : Free name items (suc bound)) → (here : Bool) → bytes_eq (name found.number) item ≡ here
    → Free (λ j. name (skip found.number j)) items bound → Free name (item ∷ items) (suc bound)
free_by name item items bound different found false is other = record { number = found.number; below = found.below; is_free = rw (is, found.is_free) refl }
free_by name item items bound different found true is other =
    let number : ℕ = skip found.number other.number in
    let below : number < suc bound = below_by other.number (suc bound) (nat_lt other.number found.number) (omega (arith, other.below)) in
    let not_item : bytes_eq (name number) item ≡ false =
    not_same (name number) item (bytes_eq (name number) item) refl
    (λ same. skipped found.number other.number (different.differ number found.number below found.below (same ∙ sym (bytes_same (name found.number) item is)))) in
    record { number = number; below = below; is_free = rw (not_item, other.is_free) refl }

less_different : (name : ℕ → List ℕ) (bound : ℕ) → Different name (suc bound) → Different name bound
less_different name bound different = record { differ = λ i j i_below j_below same. different.differ i j (omega arith) (omega arith) same }

pub free : (name : ℕ → List ℕ) (items : List (List ℕ)) (bound : ℕ) → Different name bound → length items < bound → Free name items bound
free name [] bound different few = record { number = 0; below = omega arith; is_free = refl }
free name (item ∷ items) zero different few = absurd (omega arith)
free name (item ∷ items) (suc bound) different few =
    let found = free name items (suc bound) different (omega arith) in
    let other = free (λ j. name (skip found.number j)) items bound (others name bound found.number different) (omega arith) in
    free_by name item items bound different found (bytes_eq (name found.number) item) refl other
