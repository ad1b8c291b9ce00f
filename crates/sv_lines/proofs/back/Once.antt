-- Items of a list in which nothing stands twice: the first that is the same as an item is that item, and an item behind
-- others is none of them.
use Rattle.std.proofs.Common.{◌≡◌, ℕ, zero, suc, ◌+◌, Bool, true, false, not, ◌||◌, List, [], ◌∷◌, ◌++◌, length, Some, refl, ap, sym, ◌∙◌, arith}
use Rattle.std.proofs.lemmas.Bool.{and_parts, not-true}
use Rattle.std.proofs.lemmas.Bool.Decides.{nat_tests}
use Rattle.std.proofs.lemmas.List.Folds.{list_any-append}
use Rattle.std.specs.Prelude.{position, slice_get, nat_lt}
use Rattle.std.specs.List.{position_or_len, list_any}
use Rattle.sv_tree.specs.WellFormed.{has_no_twice}
use Rattle.sv_lines.proofs.read.Indices.{within}

pub not_false : (test : Bool) → test ≡ false → not test ≡ true
not_false test e = rw e refl

pub neither : (one other : Bool) → (one || other) ≡ false → (one ≡ false) × (other ≡ false)
neither true other e = absurd cc
neither false other e = (refl, e)

any_there : {X : Type 0} (test : X → Bool) (items : List X) (index : ℕ) (item : X) → list_any test items ≡ false → slice_get items index ≡ Some item → test item ≡ false
any_there test [] index item none e = absurd cc
any_there test (first ∷ items) zero item none e =
    let parts = neither (test first) (list_any test items) none in
    let same : first ≡ item = cc in
    rw (← same) parts.0
any_there test (first ∷ items) (suc index) item none e =
    let parts = neither (test first) (list_any test items) none in
    any_there test items index item parts.1 e

-- `same` is as it is turned
abbrev pub Turns : {X : Type 0} → (X → X → Bool) → Type 0
Turns {X} same = (one other : X) → same one other ≡ same other one

index_of : {X : Type 0} (same : X → X → Bool) → Turns same → (items : List X) (index : ℕ) (item : X) → has_no_twice same items ≡ true
    → slice_get items index ≡ Some item → same item item ≡ true → position_or_len (same item) items ≡ index
index_of same turns [] index item once e itself = absurd cc
index_of same turns (first ∷ items) zero item once e itself =
    let is_first : first ≡ item = cc in
    let here : same item first ≡ true = rw is_first itself in
    rw here refl
index_of same turns (first ∷ items) (suc index) item once e itself =
    let parts = and_parts (not (list_any (same first) items)) (has_no_twice same items) once in
    let other = any_there (same first) items index item (not-true (list_any (same first) items) parts.0) e in
    let differs : same item first ≡ false = turns item first ∙ other in
    let later = index_of same turns items index item parts.1 e itself in
    let one_more : 1 + index ≡ suc index = omega arith in
    rw differs (ap (λ n. 1 + n) later ∙ one_more)

pub position_back : {X : Type 0} (same : X → X → Bool) → Turns same → (items : List X) (index : ℕ) (item : X) → has_no_twice same items ≡ true
    → slice_get items index ≡ Some item → same item item ≡ true → position (same item) items ≡ Some index
position_back same turns items index item once e itself =
    let is_place = index_of same turns items index item once e itself in
    let below = within items index item e in
    let holds : nat_lt index (length items) ≡ true = grind (arith, nat_tests) in
    rw (is_place, holds) refl

-- an item behind others is none of them
new_by : {X : Type 0} (same : X → X → Bool) → Turns same → (done : List X) (item : X) (later : List X) (first : X) → list_any (same first) (done ++ (item ∷ later)) ≡ false
    → same item first ≡ false
new_by same turns done item later first none =
    let joined : (list_any (same first) done || list_any (same first) (item ∷ later)) ≡ false = sym (list_any-append (same first) done (item ∷ later)) ∙ none in
    let parts = neither (list_any (same first) done) (list_any (same first) (item ∷ later)) joined in
    let heads = neither (same first item) (list_any (same first) later) parts.1 in
    turns item first ∙ heads.0

pub new_behind : {X : Type 0} (same : X → X → Bool) → Turns same → (done : List X) (item : X) (later : List X) → has_no_twice same (done ++ (item ∷ later)) ≡ true
    → list_any (same item) done ≡ false
new_behind same turns [] item later once = refl
new_behind same turns (first ∷ done) item later once =
    let parts = and_parts (not (list_any (same first) (done ++ (item ∷ later)))) (has_no_twice same (done ++ (item ∷ later))) once in
    let differs = new_by same turns done item later first (not-true (list_any (same first) (done ++ (item ∷ later))) parts.0) in
    rw differs (new_behind same turns done item later parts.1)
