-- The point that a node draws is one of the turn's points that has the node and its form; and where there is such a point, one is found.
use Rattle.std.proofs.Common.{◌≡◌, ℕ, inl, inr, arith, refl, sym, ap, subst, Bool, true, false, ◌==◌, ◌&&◌, if◌then◌else◌, List, [], ◌∷◌, Some}
use Rattle.std.proofs.lemmas.Bool.Decides.{nat_tests}
use Rattle.order_rules.specs.Form.{Form, Start, Same, After, Sync, Join, Side, Merge}
use Rattle.order_rules.specs.Standing.{map_form}
use Rattle.core_term.specs.Points.{Spot, Formed}
use Rattle.core_term.specs.Order.{IsFormed}
use Rattle.turn_machine.specs.OneTurn.{are_same_form, drawn_point, is_some}

both_true : (test other : Bool) → (test && other) ≡ true → (test ≡ true) × (other ≡ true)
both_true true other passes = (refl, passes)
both_true false other passes = absurd cc

are_equal : (m n : ℕ) → (m == n) ≡ true → m ≡ n
are_equal m n passes = grind (arith, nat_tests)

test_equal : (m n : ℕ) → m ≡ n → (m == n) ≡ true
test_equal m n same = grind (arith, nat_tests)

-- forms that pass the test are the same
pub same_forms : (form other : Form ℕ) → are_same_form form other ≡ true → form ≡ other
same_forms Start Start passes = refl
same_forms (Same from) (Same other) passes = ap Same (are_equal from other passes)
same_forms (After delay from) (After time other) passes =
    let both = both_true (delay == time) (from == other) passes in let same_delay = are_equal delay time both.0 in let same_from = are_equal from other both.1 in rw (same_delay, same_from) refl
same_forms (Sync from) (Sync other) passes = ap Sync (are_equal from other passes)
same_forms (Join first second) (Join one other) passes =
    let both = both_true (first == one) (second == other) passes in let same_first = are_equal first one both.0 in let same_second = are_equal second other both.1 in rw (same_first, same_second) refl
same_forms (Side from) (Side other) passes = ap Side (are_equal from other passes)
same_forms (Merge first second) (Merge one other) passes =
    let both = both_true (first == one) (second == other) passes in let same_first = are_equal first one both.0 in let same_second = are_equal second other both.1 in rw (same_first, same_second) refl
same_forms form other passes = absurd cc

pub test_form : (form : Form ℕ) → are_same_form form form ≡ true
test_form Start = refl
test_form (Same from) = test_equal from from refl
test_form (After delay from) = let same_delay = test_equal delay delay refl in let same_from = test_equal from from refl in rw (same_delay, same_from) refl
test_form (Sync from) = test_equal from from refl
test_form (Join first second) = let same_first = test_equal first first refl in let same_second = test_equal second second refl in rw (same_first, same_second) refl
test_form (Side from) = test_equal from from refl
test_form (Merge first second) = let same_first = test_equal first first refl in let same_second = test_equal second second refl in rw (same_first, same_second) refl

module _ (form : ℕ → Form ℕ) (node_of : Spot → ℕ) where
  -- a point whose node this is, and whose form the node has
  pub record DrawnBy (points : List Formed) (node : ℕ) (point : Spot) : Type 0 where
    pub form_of : Form Spot
    pub formed : IsFormed points point form_of
    pub at : node_of point ≡ node
    pub mapped : map_form node_of form_of ≡ form node

  among_more : (first : Formed) (points : List Formed) (node : ℕ) (point : Spot) → DrawnBy points node point → DrawnBy (first ∷ points) node point
  among_more first points node point drawn = record { form_of = drawn.form_of; formed = inr drawn.formed; at = drawn.at; mapped = drawn.mapped }

  pub is_drawn : (points : List Formed) (node : ℕ) (point : Spot) → drawn_point form node_of node points ≡ Some point → DrawnBy points node point
  is_drawn [] node point found = absurd cc
  is_drawn (first ∷ rest) node point found =
      by_test ((node_of first.spot == node) && are_same_form (map_form node_of first.form) (form node)) refl found (λ found. is_drawn rest node point found)
    where
      by_test : (test : Bool) → ((node_of first.spot == node) && are_same_form (map_form node_of first.form) (form node)) ≡ test → (if test then Some first.spot else drawn_point form node_of node rest) ≡ Some point
          → (drawn_point form node_of node rest ≡ Some point → DrawnBy rest node point) → DrawnBy (first ∷ rest) node point
      by_test true passes found in_rest =
          let both = both_true (node_of first.spot == node) (are_same_form (map_form node_of first.form) (form node)) passes in
          let same : first.spot ≡ point = cc in
          subst (DrawnBy (first ∷ rest) node) same (record { form_of = first.form; formed = inl refl; at = are_equal (node_of first.spot) node both.0; mapped = same_forms (map_form node_of first.form) (form node) both.1 })
      by_test false fails found in_rest = among_more first rest node point (in_rest found)

  pub is_found : (points : List Formed) (node : ℕ) (point : Spot) (form_of : Form Spot) → IsFormed points point form_of → node_of point ≡ node → map_form node_of form_of ≡ form node → is_some (drawn_point form node_of node points) ≡ true
  is_found [] node point form_of formed at mapped = elim formed [ ]
  is_found (first ∷ rest) node point form_of (inl same) at mapped =
      let Passes : Formed → Type 0 = λ z. ((node_of z.spot == node) && are_same_form (map_form node_of z.form) (form node)) ≡ true in
      let passes_here : ((node_of point == node) && are_same_form (map_form node_of form_of) (form node)) ≡ true = rw (test_equal (node_of point) node at, mapped, test_form (form node)) refl in
      let passes = subst Passes (sym same) passes_here in
      rw passes refl
  is_found (first ∷ rest) node point form_of (inr formed) at mapped =
      by_test ((node_of first.spot == node) && are_same_form (map_form node_of first.form) (form node)) (is_found rest node point form_of formed at mapped)
    where
      by_test : (test : Bool) → is_some (drawn_point form node_of node rest) ≡ true → is_some (if test then Some first.spot else drawn_point form node_of node rest) ≡ true
      by_test true in_rest = refl
      by_test false in_rest = in_rest
