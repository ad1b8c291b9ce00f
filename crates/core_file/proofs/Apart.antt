-- Lists of which no item is the same as another, and tests of all items of a list, by what stands in the list.
use Rattle.std.proofs.Common.{◌≡◌, ◌∙◌, ◌+◌, ◌<◌, ◌⊎◌, inl, inr, arith, refl, sym, ap, Bool, true, false, cond, not, ◌&&◌, ◌||◌, List, [], ◌∷◌, ◌++◌, length, map, bytes_eq}
use Rattle.std.proofs.lemmas.Slice.Eq.{bytes_eq-Decides}
use Rattle.std.specs.Prelude.{⊤}
use Rattle.std.specs.List.{list_any, list_all, position_or_len}
use Rattle.anvil_tree.specs.Tree.{Name}
use Rattle.core_term.specs.Lists.{Has}
use Rattle.core_term.specs.Names.{has_no_twice}

-- Tests.

pub both_true : (one other : Bool) → one ≡ true → other ≡ true → (one && other) ≡ true
both_true true other is also = also
both_true false other is also = is

pub first_true : (one other : Bool) → (one && other) ≡ true → one ≡ true
first_true true other both = refl
first_true false other both = both

pub second_true : (one other : Bool) → (one && other) ≡ true → other ≡ true
second_true true other both = both
second_true false other both = absurd cc

pub not_false : (test : Bool) → not test ≡ true → test ≡ false
not_false true is = absurd cc
not_false false is = refl

pub false_not : (test : Bool) → test ≡ false → not test ≡ true
false_not true is = absurd cc
false_not false is = refl

-- what is not true is false
pub never_true : (test : Bool) → (test ≡ true → ⊥) → test ≡ false
never_true true never = absurd (never refl)
never_true false never = refl

pub true_is_not_false : (test : Bool) → test ≡ true → test ≡ false → ⊥
true_is_not_false test is not_is = absurd cc

-- Names.

pub same_name : (one other : Name) → bytes_eq one other ≡ true → one ≡ other
same_name one other is = (bytes_eq-Decides one other).0 is

pub name_same : (one other : Name) → one ≡ other → bytes_eq one other ≡ true
name_same one other is = (bytes_eq-Decides one other).1 is

turned_by : (one other : Name) (this that : Bool) → bytes_eq one other ≡ this → bytes_eq other one ≡ that → this ≡ that
turned_by one other true true is also = refl
turned_by one other false false is also = refl
turned_by one other true false is also = sym (name_same other one (sym (same_name one other is))) ∙ also
turned_by one other false true is also = sym is ∙ name_same one other (sym (same_name other one also))

pub names_turned : (one other : Name) → bytes_eq one other ≡ bytes_eq other one
names_turned one other = turned_by one other (bytes_eq one other) (bytes_eq other one) refl refl

-- What stands in a list.

pub has_left : {X : Type 0} (items others : List X) (item : X) → Has items item → Has (items ++ others) item
has_left [] others item has = elim has [ ]
has_left (first ∷ items) others item (inl here) = inl here
has_left (first ∷ items) others item (inr has) = inr (has_left items others item has)

pub has_right : {X : Type 0} (items others : List X) (item : X) → Has others item → Has (items ++ others) item
has_right [] others item has = has
has_right (first ∷ items) others item has = inr (has_right items others item has)

pub has_either : {X : Type 0} (items others : List X) (item : X) → Has (items ++ others) item → Has items item ⊎ Has others item
has_either [] others item has = inr has
has_either (first ∷ items) others item (inl here) = inl (inl here)
has_either (first ∷ items) others item (inr has) = elim (has_either items others item has) [
  | inl left ↦
      inl (inr left)
  | inr right ↦ inr right
]

pub has_map : {X Y : Type 0} (view : X → Y) (items : List X) (seen : Y) → Has (map view items) seen → (item : X)
    × Has items item × (seen ≡ view item)
has_map view [] seen has = elim has [ ]
has_map view (first ∷ items) seen (inl here) = (first, inl refl, here)
has_map view (first ∷ items) seen (inr has) = let found = has_map view items seen has in (found.0, inr found.1, found.2)

pub map_has : {X Y : Type 0} (view : X → Y) (items : List X) (item : X) → Has items item → Has (map view items) (view item)
map_has view [] item has = elim has [ ]
map_has view (first ∷ items) item (inl here) = inl (ap view here)
map_has view (first ∷ items) item (inr has) = inr (map_has view items item has)

pub all_from : {X : Type 0} (test : X → Bool) (items : List X) → ((item : X) → Has items item → test item ≡ true)
    → list_all test items ≡ true
all_from test [] each = refl
all_from test (first ∷ items) each =
    both_true (test first) (list_all test items) (each first (inl refl)) (all_from test items (λ item has. each item (inr has)))

pub all_of : {X : Type 0} (test : X → Bool) (items : List X) (item : X) → list_all test items ≡ true → Has items item
    → test item ≡ true
all_of test [] item all has = elim has [ ]
all_of test (first ∷ items) item all (inl here) = ap test here ∙ first_true (test first) (list_all test items) all
all_of test (first ∷ items) item all (inr has) = all_of test items item (second_true (test first) (list_all test items) all) has

any_by : {X : Type 0} (test : X → Bool) (first : X) (items : List X) (here : Bool) → test first ≡ here
    → list_any test items ≡ true → (here || list_any test items) ≡ true
any_by test first items true is any = refl
any_by test first items false is any = any

pub any_from : {X : Type 0} (test : X → Bool) (items : List X) (item : X) → Has items item → test item ≡ true
    → list_any test items ≡ true
any_from test [] item has is = elim has [ ]
any_from test (first ∷ items) item (inl here) is = rw (ap test (sym here) ∙ is) refl
any_from test (first ∷ items) item (inr has) is = any_by test first items (test first) refl (any_from test items item has is)

any_of_by : {X : Type 0} (test : X → Bool) (first : X) (items : List X) (here : Bool) → test first ≡ here
    → (here || list_any test items) ≡ true
    → (list_any test items ≡ true → (item : X) × Has items item × (test item ≡ true)) → (item : X) × Has (first ∷ items) item
    × (test item ≡ true)
any_of_by test first items true is any later = (first, inl refl, is)
any_of_by test first items false is any later = let found = later any in (found.0, inr found.1, found.2)

pub any_of : {X : Type 0} (test : X → Bool) (items : List X) → list_any test items ≡ true → (item : X) × Has items item
    × (test item ≡ true)
any_of test [] any = absurd cc
any_of test (first ∷ items) any = any_of_by test first items (test first) refl any (any_of test items)

pub none_from : {X : Type 0} (test : X → Bool) (items : List X) → ((item : X) → Has items item → test item ≡ false)
    → list_any test items ≡ false
none_from test [] each = refl
none_from test (first ∷ items) each = rw (each first (inl refl)) (none_from test items (λ item has. each item (inr has)))

none_of_by : {X : Type 0} (test : X → Bool) (items : List X) (here : Bool) → (here || list_any test items) ≡ false
    → (here ≡ false) × (list_any test items ≡ false)
none_of_by test items true none = absurd cc
none_of_by test items false none = (refl, none)

pub none_of : {X : Type 0} (test : X → Bool) (items : List X) (item : X) → list_any test items ≡ false → Has items item
    → test item ≡ false
none_of test [] item none has = elim has [ ]
none_of test (first ∷ items) item none (inl here) = ap test here ∙ (none_of_by test items (test first) none).0
none_of test (first ∷ items) item none (inr has) = none_of test items item (none_of_by test items (test first) none).1 has

-- No item is the same as a later one.

abbrev pub AllApart : {X : Type 0} → (X → X → Bool) → List X → Type 0
AllApart {X = X} same [] = ⊤
AllApart {X = X} same (first ∷ items) = ((later : X) → Has items later → same first later ≡ false) × AllApart same items

pub no_twice : {X : Type 0} (same : X → X → Bool) (items : List X) → AllApart same items → has_no_twice same items ≡ true
no_twice same [] apart = refl
no_twice same (first ∷ items) apart =
    both_true (not (list_any (same first) items)) (has_no_twice same items)
    (false_not (list_any (same first) items) (none_from (same first) items apart.0)) (no_twice same items apart.1)

pub apart_again : {X : Type 0} (same : X → X → Bool) (items : List X) → has_no_twice same items ≡ true → AllApart same items
apart_again same [] once = tt
apart_again same (first ∷ items) once =
    let none = not_false (list_any (same first) items) (first_true (not (list_any (same first) items)) (has_no_twice same items) once) in (
      λ later has. none_of (same first) items later none has,
      apart_again same items (second_true (not (list_any (same first) items)) (has_no_twice same items) once),
    )

pub apart_both : {X : Type 0} (same : X → X → Bool) (items others : List X) → AllApart same items → AllApart same others
    → ((one other : X) → Has items one → Has others other → same one other ≡ false) → AllApart same (items ++ others)
apart_both same [] others apart also between = also
apart_both same (first ∷ items) others apart also between = (
  λ later has. elim (has_either items others later has) [
    | inl left ↦ apart.0 later left
    | inr right ↦
        between first later (inl refl) right
  ],
  apart_both same items others apart.1 also (λ one other has there. between one other (inr has) there),
)

pub apart_map : {X Y : Type 0} (view : X → Y) (same : X → X → Bool) (alike : Y → Y → Bool) (items : List X)
    → ((one other : X) → same one other ≡ false → alike (view one) (view other) ≡ false) → AllApart same items
    → AllApart alike (map view items)
apart_map view same alike [] keeps apart = tt
apart_map view same alike (first ∷ items) keeps apart = (
  λ later has. let found = has_map view items later has in ap (alike (view first)) found.2
      ∙ keeps first found.0 (apart.0 found.0 found.1),
  apart_map view same alike items keeps apart.1,
)

-- where the views are apart, the items are
pub apart_items : {X Y : Type 0} (view : X → Y) (alike : Y → Y → Bool) (items : List X) → AllApart alike (map view items)
    → AllApart (λ one other. alike (view one) (view other)) items
apart_items view alike [] apart = tt
apart_items view alike (first ∷ items) apart = (
  λ later has. apart.0 (view later) (map_has view items later has),
  apart_items view alike items apart.1,
)

pub map_twice : {X Y Z : Type 0} (inner : X → Y) (outer : Y → Z) (items : List X)
    → map outer (map inner items) ≡ map (λ item. outer (inner item)) items
map_twice inner outer [] = refl
map_twice inner outer (item ∷ items) = ap (λ rest. outer (inner item) ∷ rest) (map_twice inner outer items)

-- Each item is none of those before it, as the checks say it.

abbrev pub AllNew : {X : Type 0} → (X → X → Bool) → List X → List X → Type 0
AllNew same before [] = ⊤
AllNew same before (first ∷ items) = (list_any (same first) before ≡ false) × AllNew same (before ++ (first ∷ [])) items

pub new_after : {X : Type 0} (same : X → X → Bool) → ((one other : X) → same one other ≡ same other one)
    → (before items : List X) → AllNew same before items
    → (earlier later : X) → Has before earlier → Has items later → same earlier later ≡ false
new_after same turned before [] new earlier later has there = elim there [ ]
new_after same turned before (first ∷ items) new earlier later has (inl here) =
    ap (same earlier) here ∙ turned earlier first ∙ none_of (same first) before earlier new.0 has
new_after same turned before (first ∷ items) new earlier later has (inr there) =
    new_after same turned (before ++ (first ∷ [])) items new.1 earlier later (has_left before (first ∷ []) earlier has) there

pub new_apart : {X : Type 0} (same : X → X → Bool) → ((one other : X) → same one other ≡ same other one)
    → (before items : List X) → AllNew same before items → AllApart same items
new_apart same turned before [] new = tt
new_apart same turned before (first ∷ items) new = (
  λ later has. new_after same turned (before
      ++ (first ∷ [])) items new.1 first later (has_right before (first ∷ []) first (inl refl)) has,
  new_apart same turned (before ++ (first ∷ [])) items new.1,
)

-- The first item that passes a test.

found_by : {X : Type 0} (test : X → Bool) (item : X) (items : List X) (here : Bool) → test item ≡ here
    → (here || list_any test items) ≡ true
    → (list_any test items ≡ true → position_or_len test items < length items)
    → cond (not here) (1 + position_or_len test items) 0 < length (item ∷ items)
found_by test item items true is any later = omega arith
found_by test item items false is any later = let found = later any in omega arith

-- has a number below the count
pub found : {X : Type 0} (test : X → Bool) (items : List X) → list_any test items ≡ true
    → position_or_len test items < length items
found test [] any = absurd cc
found test (item ∷ items) any = found_by test item items (test item) refl any (found test items)
