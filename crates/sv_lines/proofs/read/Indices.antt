-- The place of the first item that passes a test, and items of lists that are longer or changed.
use Rattle.std.proofs.Common.{◌≡◌, ℕ, zero, suc, ◌+◌, ◌<◌, ◌≤◌, Bool, true, false, cond, not, List, [], ◌∷◌, length, map, Some, None, refl, arith}
use Rattle.std.proofs.lemmas.Bool.Decides.{nat_tests}
use Rattle.std.specs.Prelude.{position, slice_get, nat_lt}
use Rattle.std.specs.List.{position_or_len}
use Rattle.sv_lines.proofs.read.Decided.{passes}

pub record Stands {X : Type 0} (test : X → Bool) (items : List X) (index : ℕ) : Type 0 where
  pub item : X
  pub is_there : slice_get items index ≡ Some item
  pub passed : test item ≡ true

stands_by : {X : Type 0} (test : X → Bool) (item : X) (items : List X) (here : Bool) → test item ≡ here
    → (position_or_len test items < length items → Stands test items (position_or_len test items)) → cond (not here) (1 + position_or_len test items) 0 < length (item ∷ items)
    → Stands test (item ∷ items) (cond (not here) (1 + position_or_len test items) 0)
stands_by test item items true is later within = record { item = item; is_there = refl; passed = is }
stands_by test item items false is later within =
    let found = later (omega arith) in
    let one_more : 1 + position_or_len test items ≡ suc (position_or_len test items) = omega arith in
    rw one_more (record { item = found.item; is_there = found.is_there; passed = found.passed })

first_stands : {X : Type 0} (test : X → Bool) (items : List X) → position_or_len test items < length items → Stands test items (position_or_len test items)
first_stands test [] within = absurd (omega arith)
first_stands test (item ∷ items) within = stands_by test item items (test item) refl (first_stands test items) within

pub position_stands : {X : Type 0} (test : X → Bool) (items : List X) (index : ℕ) → position test items ≡ Some index → Stands test items index
position_stands test items index e =
    let passed = passes (nat_lt (position_or_len test items) (length items)) (position_or_len test items) index e in
    let holds = passed.holds in
    rw (← passed.same) (first_stands test items (grind (arith, nat_tests)))

pub record Origin {X Y : Type 0} (change : X → Y) (items : List X) (index : ℕ) (result : Y) : Type 0 where
  pub item : X
  pub is_there : slice_get items index ≡ Some item
  pub changed : change item ≡ result

pub map_stands : {X Y : Type 0} (change : X → Y) (items : List X) (index : ℕ) (result : Y) → slice_get (map change items) index ≡ Some result → Origin change items index result
map_stands change [] index result e = absurd cc
map_stands change (item ∷ items) zero result e = record { item = item; is_there = refl; changed = cc }
map_stands change (item ∷ items) (suc index) result e =
    let later = map_stands change items index result e in
    record { item = later.item; is_there = later.is_there; changed = later.changed }

pub map_there : {X Y : Type 0} (change : X → Y) (items : List X) (index : ℕ) (item : X) → slice_get items index ≡ Some item → slice_get (map change items) index ≡ Some (change item)
map_there change [] index item e = absurd cc
map_there change (first ∷ items) zero item e = cc
map_there change (first ∷ items) (suc index) item e = map_there change items index item e

pub within : {X : Type 0} (items : List X) (index : ℕ) (item : X) → slice_get items index ≡ Some item → index < length items
within [] index item e = absurd cc
within (first ∷ items) zero item e = omega arith
within (first ∷ items) (suc index) item e = let later = within items index item e in omega arith

pub none_there : {X : Type 0} (items : List X) (index : ℕ) → slice_get items index ≡ None → length items ≤ index
none_there [] index e = omega arith
none_there (first ∷ items) zero e = absurd cc
none_there (first ∷ items) (suc index) e = let later = none_there items index e in omega arith
