-- Standing in lists.
use Rattle.std.proofs.Common.{◌≡◌, ℕ, ◌⊎◌, inl, inr, refl, sym, ◌∙◌, ap, List, [], ◌∷◌, ◌++◌, map, zero, suc, slice_get, Some}
use Rattle.core_term.specs.Lists.{Has}
use Rattle.demand_checks.specs.declared.place.Pair.{Pair}

pub has_left : {A : Type 0} (these those : List A) (item : A) → Has these item → Has (these ++ those) item
has_left [] those item has = elim has [ ]
has_left (first ∷ these) those item (inl here) = inl here
has_left (first ∷ these) those item (inr has) = inr (has_left these those item has)

pub has_right : {A : Type 0} (these those : List A) (item : A) → Has those item → Has (these ++ those) item
has_right [] those item has = has
has_right (first ∷ these) those item has = inr (has_right these those item has)

pub has_either : {A : Type 0} (these those : List A) (item : A) → Has (these ++ those) item → Has these item ⊎ Has those item
has_either [] those item has = inr has
has_either (first ∷ these) those item (inl here) = inl (inl here)
has_either (first ∷ these) those item (inr has) = elim (has_either these those item has) [ inl i ↦ inl (inr i) | inr i ↦ inr i ]

pub same_pair : (one : Pair) (first second : ℕ) → one.first ≡ first → one.second ≡ second → one ≡ record { first = first; second = second }
same_pair one first second is are = ap (λ a. record { first = a; second = one.second }) is ∙ ap (λ b. record { first = first; second = b }) are

pub mapped : {A B : Type 0} (f : A → B) (items : List A) (one : B) → Has (map f items) one → (item : A) × Has items item × (one ≡ f item)
mapped f [] one has = elim has [ ]
mapped f (item ∷ items) one (inl is) = (item, inl refl, is)
mapped f (item ∷ items) one (inr has) = let known = mapped f items one has in (known.0, inr known.1, known.2)

pub in_map : {A B : Type 0} (f : A → B) (items : List A) (item : A) → Has items item → Has (map f items) (f item)
in_map f [] item has = elim has [ ]
in_map f (first ∷ items) item (inl is) = inl (ap f is)
in_map f (first ∷ items) item (inr has) = inr (in_map f items item has)

-- what stands in a list stands at a place
pub place_in : {A : Type 0} (items : List A) (item : A) → Has items item → (k : ℕ) × (slice_get items k ≡ Some item)
place_in [] item has = elim has [ ]
place_in (first ∷ items) item (inl is) = (0, ap Some (sym is))
place_in (first ∷ items) item (inr has) = let known = place_in items item has in (suc known.0, known.1)

pub has_at : {A : Type 0} (items : List A) (k : ℕ) (item : A) → slice_get items k ≡ Some item → Has items item
has_at [] k item at = absurd cc
has_at (first ∷ items) zero item at = inl (let known : first ≡ item = cc in sym known)
has_at (first ∷ items) (suc k) item at = inr (has_at items k item at)
