-- Lists that are one item longer: what holds of all items, and that none stands twice, holds of the longer list if it holds of
-- the list and the new item is good and new.
use Rattle.std.proofs.Common.{◌≡◌, ℕ, ◌+◌, Bool, true, false, not, List, [], ◌∷◌, ◌++◌, length, map, refl, ap, sym, arith}
use Rattle.std.specs.Prelude.{◌||◌, ◌==◌, bytes_eq}
use Rattle.std.specs.List.{list_all, list_any}
use Rattle.std.proofs.lemmas.Slice.Eq.{bytes_eq-Decides}
use Rattle.std.proofs.lemmas.Bool.{eq-eqb, and_parts}
use Rattle.sv_tree.specs.WellFormed.{has_no_twice, is_same_port, is_same_register}
use Rattle.sv_tree.specs.declared.tree.SvPort.{SvPort}
use Rattle.sv_tree.specs.declared.tree.SvRegName.{SvRegName}
use Rattle.sv_tree.specs.declared.tree.SvRegName.TheVariants.{Source, State}
use Rattle.sv_lines.proofs.read.Decided.{bytes_same, number_same}

pub all_longer : {X : Type 0} (test : X → Bool) (items : List X) (item : X) → list_all test items ≡ true → test item ≡ true → list_all test (items ++ (item ∷ [])) ≡ true
all_longer test [] item all good = rw good refl
all_longer test (first ∷ items) item all good =
    let parts = and_parts (test first) (list_all test items) all in
    rw (parts.0, all_longer test items item parts.1 good) refl

pub is_negated : (test : Bool) → not test ≡ true → test ≡ false
is_negated true e = absurd cc
is_negated false e = refl

pub record Neither (one other : Bool) : Type 0 where
  pub one_fails : one ≡ false
  pub other_fails : other ≡ false

pub neither : (one other : Bool) → (one || other) ≡ false → Neither one other
neither true other e = absurd cc
neither false other e = record { one_fails = refl; other_fails = e }

-- the new item is none of the earlier ones, as seen from the earlier ones
not_among : {X : Type 0} (same : X → X → Bool) → ((one other : X) → same one other ≡ same other one) → (first : X) (items : List X) (item : X)
    → list_any (same first) items ≡ false → same item first ≡ false → list_any (same first) (items ++ (item ∷ [])) ≡ false
not_among same turned first [] item none other = rw (turned first item, other) refl
not_among same turned first (next ∷ items) item none other =
    let parts = neither (same first next) (list_any (same first) items) none in
    rw (parts.one_fails, not_among same turned first items item parts.other_fails other) refl

pub no_twice_longer : {X : Type 0} (same : X → X → Bool) → ((one other : X) → same one other ≡ same other one) → (items : List X) (item : X)
    → has_no_twice same items ≡ true → list_any (same item) items ≡ false → has_no_twice same (items ++ (item ∷ [])) ≡ true
no_twice_longer same turned [] item once new = refl
no_twice_longer same turned (first ∷ items) item once new =
    let parts = and_parts (not (list_any (same first) items)) (has_no_twice same items) once in
    let others = neither (same item first) (list_any (same item) items) new in
    rw (not_among same turned first items item (is_negated (list_any (same first) items) parts.0) others.one_fails, no_twice_longer same turned items item parts.1 others.other_fails) refl

-- Tests for sameness can be turned round.

turned_by : (one other : Bool) → (one ≡ true → other ≡ true) → (other ≡ true → one ≡ true) → one ≡ other
turned_by true true there back = refl
turned_by true false there back = sym (there refl)
turned_by false true there back = back refl
turned_by false false there back = refl

pub bytes_turned : (one other : List ℕ) → bytes_eq one other ≡ bytes_eq other one
bytes_turned one other =
    turned_by (bytes_eq one other) (bytes_eq other one) (λ e. (bytes_eq-Decides other one).1 (sym (bytes_same one other e)))
    (λ e. (bytes_eq-Decides one other).1 (sym (bytes_same other one e)))

pub number_turned : (one other : ℕ) → (one == other) ≡ (other == one)
number_turned one other =
    turned_by (one == other) (other == one) (λ e. eq-eqb other one (sym (number_same one other e))) (λ e. eq-eqb one other (sym (number_same other one e)))

pub port_turned : (one other : SvPort) → is_same_port one other ≡ is_same_port other one
port_turned one other = rw (bytes_turned one.endpoint other.endpoint, bytes_turned one.message other.message) refl

pub register_turned : (one other : SvRegName) → is_same_register one other ≡ is_same_register other one
register_turned (Source one) (Source other) = bytes_turned one other
register_turned (Source one) (State other) = refl
register_turned (State one) (Source other) = refl
register_turned (State one) (State other) = number_turned one other

pub length_longer : {X : Type 0} (items : List X) (item : X) → length (items ++ (item ∷ [])) ≡ length items + 1
length_longer [] item = refl
length_longer (first ∷ items) item = let later = length_longer items item in omega arith

pub map_longer : {X Y : Type 0} (change : X → Y) (items : List X) (item : X) → map change (items ++ (item ∷ [])) ≡ map change items ++ (change item ∷ [])
map_longer change [] item = refl
map_longer change (first ∷ items) item = ap (λ l. change first ∷ l) (map_longer change items item)
