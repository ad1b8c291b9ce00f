-- The bits that are kept for the nodes of a graph are within those that its points may cost.
--
-- Each node for which registers are kept draws one point, and costs what that point costs, since it has the form of the point. No two
-- nodes draw the same point, since a point has one node. So over all nodes each point is counted once at most: by induction over the
-- list of points, the nodes that draw its first point are one at most.
use Rattle.std.proofs.Common.{◌≡◌, ℕ, ◌+◌, ◌<◌, ◌≤◌, arith, refl, sym, ◌∙◌, Bool, true, false, ◌==◌, ◌&&◌, if◌then◌else◌, List, [], ◌∷◌, zero, suc, Option, Some}
use Rattle.std.proofs.lemmas.Bool.Decides.{nat_tests}
use Rattle.order_rules.specs.Form.{Form, Start, Same, After, Sync, Join, Side, Merge}
use Rattle.order_rules.specs.Standing.{map_form}
use Rattle.core_term.specs.Points.{Spot, Formed}
use Rattle.turn_machine.specs.OneTurn.{are_same_form, drawn_point, is_some}
use Rattle.turn_machine.proofs.DrawnPoints.{same_forms}
use Rattle.process_machine.specs.StateBits.{node_bits, nodes_bits}

both_true : (test other : Bool) → (test && other) ≡ true → (test ≡ true) × (other ≡ true)
both_true true other passes = (refl, passes)
both_true false other passes = absurd cc

-- the sum of the items below a count
abbrev pub sum_of : (item : ℕ → ℕ) → (count : ℕ) → ℕ
sum_of item zero = 0
sum_of item (suc last) = item last + sum_of item last

sum_at_most : (item other : ℕ → ℕ) → ((n : ℕ) → item n ≤ other n) → (count : ℕ) → sum_of item count ≤ sum_of other count
sum_at_most item other at_most zero = omega arith
sum_at_most item other at_most (suc last) = let here = at_most last in let rest = sum_at_most item other at_most last in omega (arith, here, rest)

sum_of_both : (item other : ℕ → ℕ) (count : ℕ) → sum_of (λ n. item n + other n) count ≡ sum_of item count + sum_of other count
sum_of_both item other zero = refl
sum_of_both item other (suc last) = let rest = sum_of_both item other last in omega (arith, rest)

sum_of_none : (item : ℕ → ℕ) (count : ℕ) → ((n : ℕ) → n < count → item n ≡ 0) → sum_of item count ≡ 0
sum_of_none item zero none = refl
sum_of_none item (suc last) none = let here = none last (omega arith) in let rest = sum_of_none item last (λ n below. none n (omega arith)) in omega (arith, here, rest)

-- where one item at most is not 0
sum_of_one : (item : ℕ → ℕ) (one most count : ℕ) → ((n : ℕ) → item n ≤ most) → ((n : ℕ) → (n ≡ one → ⊥) → item n ≡ 0) → sum_of item count ≤ most
sum_of_one item one most zero at_most none = omega arith
sum_of_one item one most (suc last) at_most none = by_test (last == one) refl (sum_of_one item one most last at_most none)
  where
    by_test : (test : Bool) → (last == one) ≡ test → sum_of item last ≤ most → item last + sum_of item last ≤ most
    by_test true passes rest =
        let same : last ≡ one = grind (arith, nat_tests) in
        let others = sum_of_none item last (λ n below. none n (λ also. omega arith)) in
        let here = at_most last in
        omega (arith, others, here)
    by_test false fails rest = let here = none last (λ same. let passes : (last == one) ≡ true = grind (arith, nat_tests) in let impossible : true ≡ false = sym passes ∙ fails in cc) in omega (arith, here, rest)

module _ (digits : ℕ → ℕ) where
  -- what the points cost
  abbrev pub points_bits : List Formed → ℕ
  points_bits [] = 0
  points_bits (formed ∷ rest) = node_bits digits formed.form + points_bits rest

  module _ (form : ℕ → Form ℕ) (node_of : Spot → ℕ) where
    abbrev draws_it : Formed → (node : ℕ) → Bool
    draws_it formed node = (node_of formed.spot == node) && are_same_form (map_form node_of formed.form) (form node)

    -- the bits of a node, where it draws one of the points
    abbrev pub drawn_bits : List Formed → (node : ℕ) → ℕ
    drawn_bits points node = if is_some (drawn_point form node_of node points) then node_bits digits (form node) else 0

    same_bits : (form_of : Form Spot) → node_bits digits (map_form node_of form_of) ≡ node_bits digits form_of
    same_bits Start = refl
    same_bits (Same from) = refl
    same_bits (After delay from) = refl
    same_bits (Sync from) = refl
    same_bits (Join first second) = refl
    same_bits (Side from) = refl
    same_bits (Merge first second) = refl

    -- those of the node of one point
    abbrev bits_by : Formed → (node : ℕ) → ℕ
    bits_by formed node = if draws_it formed node then node_bits digits (form node) else 0

    by_at_most : (formed : Formed) (node : ℕ) → bits_by formed node ≤ node_bits digits formed.form
    by_at_most formed node = by_test (draws_it formed node) refl
      where
        by_test : (test : Bool) → draws_it formed node ≡ test → (if draws_it formed node then node_bits digits (form node) else 0) ≤ node_bits digits formed.form
        by_test true passes =
            let both = both_true (node_of formed.spot == node) (are_same_form (map_form node_of formed.form) (form node)) passes in
            let mapped = same_forms (map_form node_of formed.form) (form node) both.1 in
            rw (passes, sym mapped) (let same = same_bits formed.form in omega (arith, same))
        by_test false fails = rw fails (omega arith)

    by_no_other : (formed : Formed) (node : ℕ) → (node ≡ node_of formed.spot → ⊥) → bits_by formed node ≡ 0
    by_no_other formed node differ = by_test (draws_it formed node) refl
      where
        by_test : (test : Bool) → draws_it formed node ≡ test → (if draws_it formed node then node_bits digits (form node) else 0) ≡ 0
        by_test true passes =
            absurd (let both = both_true (node_of formed.spot == node) (are_same_form (map_form node_of formed.form) (form node)) passes in let at : node_of formed.spot ≡ node = (let test = both.0 in grind (arith, nat_tests)) in differ (sym at))
        by_test false fails = rw fails refl

    pub drawn_within : (points : List Formed) (count : ℕ) → sum_of (drawn_bits points) count ≤ points_bits points
    drawn_within [] count = let none = sum_of_none (drawn_bits []) count (λ n below. refl) in omega (arith, none)
    drawn_within (formed ∷ rest) count =
        let here = sum_of_one (bits_by formed) (node_of formed.spot) (node_bits digits formed.form) count (by_at_most formed) (by_no_other formed) in
        let others = drawn_within rest count in
        let both = sum_of_both (bits_by formed) (drawn_bits rest) count in
        let at_most = sum_at_most (drawn_bits (formed ∷ rest)) (λ node. bits_by formed node + drawn_bits rest node) (λ node. split (draws_it formed node) (drawn_point form node_of node rest) (node_bits digits (form node))) count in
        omega (arith, here, others, both, at_most)
      where
        split : (test : Bool) (option : Option Spot) (bits : ℕ) → (if is_some (if test then Some formed.spot else option) then bits else 0) ≤ (if test then bits else 0) + (if is_some option then bits else 0)
        split true option bits = omega arith
        split false option bits = omega arith

    -- registers are kept for nodes that draw a point
    pub kept_within : (points : List Formed) (kept : ℕ → Bool) → ((node : ℕ) → kept node ≡ true → is_some (drawn_point form node_of node points) ≡ true) → (count : ℕ) → nodes_bits digits form kept count ≤ sum_of (drawn_bits points) count
    kept_within points kept live zero = omega arith
    kept_within points kept live (suc node) = let here = by_test (kept node) refl in let rest = kept_within points kept live node in omega (arith, here, rest)
      where
        by_test : (test : Bool) → kept node ≡ test → (if kept node then node_bits digits (form node) else 0) ≤ drawn_bits points node
        by_test true passes = let drawn = live node passes in rw (passes, drawn) (omega arith)
        by_test false fails = rw fails (omega arith)
