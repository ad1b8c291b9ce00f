-- Lists that stand inside others, from a place on.
use Rattle.std.proofs.Common.{◌≡◌, ℕ, ◌+◌, arith, refl, ap, subst, List, [], ◌∷◌, ◌++◌, length, zero, suc, slice_get, Some}

-- the list stands in the table from the place low on
abbrev pub Sits : {A : Type 0} → List A → ℕ → List A → Type 0
Sits {A} table low list = (k : ℕ) (item : A) → slice_get list k ≡ Some item → slice_get table (low + k) ≡ Some item

pub sits_whole : {A : Type 0} (table : List A) → Sits table 0 table
sits_whole table k item is = subst (λ z. slice_get table z ≡ Some item) (omega arith) is

pub sits_first : {A : Type 0} (table these : List A) (low : ℕ) (item : A) → Sits table low (item ∷ these) → slice_get table low ≡ Some item
sits_first table these low item sits = subst (λ z. slice_get table z ≡ Some item) (omega arith) (sits 0 item refl)

pub sits_rest : {A : Type 0} (table these : List A) (low : ℕ) (item : A) → Sits table low (item ∷ these) → Sits table (low + 1) these
sits_rest table these low item sits k other is = subst (λ z. slice_get table z ≡ Some other) (omega arith) (sits (suc k) other is)

pub sits_left : {A : Type 0} (table these those : List A) (low : ℕ) → Sits table low (these ++ those) → Sits table low these
sits_left table [] those low sits k item is = absurd cc
sits_left table (first ∷ these) those low sits zero item is = sits zero item is
sits_left table (first ∷ these) those low sits (suc k) item is =
    subst (λ z. slice_get table z ≡ Some item) (omega arith)
    (sits_left table these those (low + 1) (sits_rest table (these ++ those) low first sits) k item is)

pub sits_right : {A : Type 0} (table these those : List A) (low n : ℕ) → length these ≡ n → Sits table low (these ++ those) → Sits table (low + n) those
sits_right table [] those low n count sits = subst (λ z. Sits table z those) (omega (arith, count)) sits
sits_right table (first ∷ these) those low zero count sits = absurd (omega (arith, count))
sits_right table (first ∷ these) those low (suc n) count sits =
    subst (λ z. Sits table z those) (omega arith)
    (sits_right table these those (low + 1) n (omega (arith, count)) (sits_rest table (these ++ those) low first sits))

pub end_nothing : {A : Type 0} (list : List A) → list ++ [] ≡ list
end_nothing [] = refl
end_nothing (first ∷ rest) = ap (λ z. first ∷ z) (end_nothing rest)

pub both : {A : Type 0} {these those here there : List A} → these ≡ here → those ≡ there → these ++ those ≡ here ++ there
both is are = rw (is, are) refl
