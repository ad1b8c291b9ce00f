-- Steps of loops over lists, over plain variables: what is left of the list is its first item and what is left after it.
use Rattle.std.proofs.Common.{◌≡◌, ℕ, ◌+◌, ◌<◌, ◌≤◌, ◌⊎◌, inl, inr, arith, refl, sym, ◌∙◌, ap, subst, List, [], ◌∷◌, ◌++◌, length, map, drop, take, get_or, zero, suc, Bool, true, false, if◌then◌else◌, Option, Some, None, slice_get}
use Rattle.std.proofs.Math.Seq.{drop-cons}
use Rattle.std.proofs.lemmas.List.{drop_all, take_all}
use Rattle.std.proofs.lemmas.Bool.{cases_lt, eqb-true}
use Rattle.std.proofs.lemmas.Option.{slice_get_past}
use Rattle.core_term.specs.Lists.{Has}
use Rattle.core_term.specs.Rules.{Claim}
use Rattle.demand_checks.specs.declared.place.Pair.{Pair}
use Rattle.demand_checks.specs.Answers.{Answers, all_shown}
use Rattle.demand_checks.specs.Unshown.{unshown}
use Rattle.demand_checks.specs.Sites.{is_number, places_from, row_or}
use Rattle.act_deeds.proofs.Sitting.{end_nothing}

pub next_drop : {A : Type 0} (items : List A) (i later : ℕ) (item : A) → later ≡ suc i → i < length items → item ≡ get_or items i item → drop i items ≡ item ∷ drop later items
next_drop items i later item is small at = drop-cons items i item small ∙ (ap (λ a. a ∷ drop (suc i) items) (sym at) ∙ ap (λ n. item ∷ drop n items) (sym is))

grouped : {A : Type 0} (these those rest : List A) → (these ++ those) ++ rest ≡ these ++ (those ++ rest)
grouped [] those rest = refl
grouped (first ∷ these) those rest = ap (λ z. first ∷ z) (grouped these those rest)

-- The records of the items with a claim that is not shown: those so far, and those of what is left.
module _ {X : Type 0} (pair_of : X → Pair) (claims_of : X → List Claim) (answers : Answers) (items : List X) (i later : ℕ) (item : X) (is : later ≡ suc i)
    (small : i < length items) (at : item ≡ get_or items i item) (pairs target : List Pair) (before : pairs ++ unshown pair_of claims_of answers (drop i items) ≡ target) where
  split : pairs ++ unshown pair_of claims_of answers (item ∷ drop later items) ≡ target
  split = sym (ap (λ rest. pairs ++ unshown pair_of claims_of answers rest) (next_drop items i later item is small at)) ∙ before

  pub pass_shown : all_shown answers (claims_of item) ≡ true → pairs ++ unshown pair_of claims_of answers (drop later items) ≡ target
  pass_shown shown =
      sym (ap (λ b. pairs ++ (if b then unshown pair_of claims_of answers (drop later items) else pair_of item ∷ unshown pair_of claims_of answers (drop later items))) shown) ∙ split

  pub push_unshown : all_shown answers (claims_of item) ≡ false → (pairs ++ pair_of item ∷ []) ++ unshown pair_of claims_of answers (drop later items) ≡ target
  push_unshown shown =
      grouped pairs (pair_of item ∷ []) (unshown pair_of claims_of answers (drop later items))
      ∙ (sym (ap (λ b. pairs ++ (if b then unshown pair_of claims_of answers (drop later items) else pair_of item ∷ unshown pair_of claims_of answers (drop later items))) shown) ∙ split)

pub all_passed : {X : Type 0} (pair_of : X → Pair) (claims_of : X → List Claim) (answers : Answers) (items : List X) (i : ℕ) (pairs target : List Pair) → length items ≤ i
    → pairs ++ unshown pair_of claims_of answers (drop i items) ≡ target → pairs ≡ target
all_passed pair_of claims_of answers items i pairs target large before =
    sym (end_nothing pairs) ∙ (sym (ap (λ rest. pairs ++ unshown pair_of claims_of answers rest) (drop_all i items large)) ∙ before)

-- The bound of numbers: each is below it or is left.
abbrev pub Bounded : List (Option ℕ) → List (Option ℕ) → ℕ → Type 0
Bounded numbers rest bound = (number : ℕ) → Has numbers (Some number) → (number < bound) ⊎ Has rest (Some number)

pub none_bounded : (numbers : List (Option ℕ)) → Bounded numbers (drop 0 numbers) 0
none_bounded numbers number has = inr has

pub bound_step : (numbers : List (Option ℕ)) (i later : ℕ) (one : Option ℕ) (old new : ℕ) → later ≡ suc i → i < length numbers → one ≡ get_or numbers i one
    → Bounded numbers (drop i numbers) old → old ≤ new → ((number : ℕ) → one ≡ Some number → number < new) → Bounded numbers (drop later numbers) new
bound_step numbers i later one old new is small at before grows covers number has = elim (before number has) [
  | inl k ↦ inl (omega (arith, k, grows))
  | inr k ↦ elim (subst (λ rest. Has rest (Some number)) (next_drop numbers i later one is small at) k) [ inl same ↦ inl (covers number (sym same)) | inr l ↦ inr l ]
]

pub bounded_all : (numbers : List (Option ℕ)) (i bound : ℕ) → length numbers ≤ i → Bounded numbers (drop i numbers) bound → (number : ℕ) → Has numbers (Some number) → number < bound
bounded_all numbers i bound large before number has = elim (before number has) [
  | inl k ↦ k
  | inr k ↦ absurd (subst (λ rest. Has rest (Some number)) (drop_all i numbers large) k)
]

-- The places of a number.
module _ (number : ℕ) (numbers : List (Option ℕ)) (i later : ℕ) (one : Option ℕ) (is : later ≡ suc i) (small : i < length numbers) (at : one ≡ get_or numbers i one)
    (places target : List ℕ) (before : places ++ places_from number i (drop i numbers) ≡ target) where
  split_places : places ++ places_from number i (one ∷ drop later numbers) ≡ target
  split_places = sym (ap (λ rest. places ++ places_from number i rest) (next_drop numbers i later one is small at)) ∙ before

  pub pass_place : is_number number one ≡ false → places ++ places_from number later (drop later numbers) ≡ target
  pass_place other =
      ap (λ n. places ++ places_from number n (drop later numbers)) is
      ∙ (sym (ap (λ b. places ++ (if b then i ∷ places_from number (suc i) (drop later numbers) else places_from number (suc i) (drop later numbers))) other) ∙ split_places)

  pub push_place : is_number number one ≡ true → (places ++ i ∷ []) ++ places_from number later (drop later numbers) ≡ target
  push_place same =
      grouped places (i ∷ []) (places_from number later (drop later numbers))
      ∙ (ap (λ n. places ++ i ∷ places_from number n (drop later numbers)) is
      ∙ (sym (ap (λ b. places ++ (if b then i ∷ places_from number (suc i) (drop later numbers) else places_from number (suc i) (drop later numbers))) same) ∙ split_places))

pub all_places : (number : ℕ) (numbers : List (Option ℕ)) (i : ℕ) (places target : List ℕ) → length numbers ≤ i → places ++ places_from number i (drop i numbers) ≡ target → places ≡ target
all_places number numbers i places target large before =
    sym (end_nothing places) ∙ (sym (ap (λ rest. places ++ places_from number i rest) (drop_all i numbers large)) ∙ before)

-- A number that is not there has no place.
pub no_places : (number place : ℕ) (numbers : List (Option ℕ)) → (Has numbers (Some number) → ⊥) → places_from number place numbers ≡ []
no_places number place [] none = refl
no_places number place (one ∷ rest) none = go (is_number number one) refl (no_places number (suc place) rest (λ k. none (inr k)))
  where
    one_is : (o : Option ℕ) → is_number number o ≡ true → o ≡ Some number
    one_is None k = absurd cc
    one_is (Some other) k = ap Some (eqb-true other number k)

    go : (b : Bool) → is_number number one ≡ b → places_from number (suc place) rest ≡ []
        → (if is_number number one then place ∷ places_from number (suc place) rest else places_from number (suc place) rest) ≡ []
    go true k deeper = absurd (none (inl (sym (one_is one k))))
    go false k deeper = rw k deeper

-- The rows of the numbers so far.
abbrev pub AreRows : List (Option ℕ) → ℕ → List (List ℕ) → Type 0
AreRows numbers high rows = (length rows ≡ high) × ((k : ℕ) → k < high → slice_get rows k ≡ Some (places_from k 0 numbers))

pub no_rows : (numbers : List (Option ℕ)) → AreRows numbers 0 []
no_rows numbers = (refl, λ k small. absurd (omega (arith, small)))

pub row_more : (numbers : List (Option ℕ)) (high : ℕ) (rows : List (List ℕ)) (row : List ℕ) → AreRows numbers high rows → row ≡ places_from high 0 numbers → AreRows numbers (high + 1) (rows ++ row ∷ [])
row_more numbers high rows row are is = (
  (let known = counted rows in let seen = are.0 in omega (arith, known, seen)),
  λ k small. elim (cases_lt k high) [
    | inl l ↦ earlier rows k (are.1 k l)
    | inr l ↦ (let known = are.0 in let same : k ≡ length rows = omega (arith, known, small, l) in subst (λ n. slice_get (rows ++ row ∷ []) n ≡ Some (places_from n 0 numbers)) (sym same) (last rows ∙ ap Some (is ∙ ap (λ n. places_from n 0 numbers) (sym known))))
  ],
)
  where
    counted : (those : List (List ℕ)) → length (those ++ row ∷ []) ≡ length those + 1
    counted [] = refl
    counted (first ∷ those) = let known = counted those in omega (arith, known)

    stays : (list : List (List ℕ)) (n : ℕ) (item : List ℕ) → slice_get list n ≡ Some item → slice_get (list ++ row ∷ []) n ≡ Some item
    stays [] n item k = absurd cc
    stays (first ∷ list) zero item k = k
    stays (first ∷ list) (suc n) item k = stays list n item k

    earlier : (those : List (List ℕ)) (k : ℕ) → slice_get those k ≡ Some (places_from k 0 numbers) → slice_get (those ++ row ∷ []) k ≡ Some (places_from k 0 numbers)
    earlier those k at = stays those k _ at

    last : (those : List (List ℕ)) → slice_get (those ++ row ∷ []) (length those) ≡ Some row
    last [] = refl
    last (first ∷ those) = last those

pub rows_tell : (numbers : List (Option ℕ)) (bound high : ℕ) (rows : List (List ℕ)) → AreRows numbers high rows → bound ≤ high → ((number : ℕ) → Has numbers (Some number) → number < bound)
    → (number : ℕ) → row_or (slice_get rows number) ≡ places_from number 0 numbers
rows_tell numbers bound high rows are reach bounded number = elim (cases_lt number high) [
  | inl k ↦ ap row_or (are.1 number k)
  | inr k ↦
      ap row_or (slice_get_past rows number (let known = are.0 in omega (arith, known, k)))
      ∙ sym (no_places number 0 numbers (λ has. let known = bounded number has in absurd (omega (arith, known, k, reach))))
]

pub map_more : {A B : Type 0} (f : A → B) (items : List A) (item : A) → map f (items ++ item ∷ []) ≡ map f items ++ f item ∷ []
map_more f [] item = refl
map_more f (first ∷ items) item = ap (λ z. f first ∷ z) (map_more f items item)

pub numbers_of : {A B : Type 0} (f : A → B) (items : List A) (i : ℕ) (numbers : List B) → length items ≤ i → numbers ≡ map f (take i items) → numbers ≡ map f items
numbers_of f items i numbers large is = is ∙ ap (map f) (take_all i items large)
