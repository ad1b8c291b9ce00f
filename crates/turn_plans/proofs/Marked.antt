-- The nodes that are reached back from the last one, marked from the last node downwards.
--
-- Predecessors are earlier nodes, so a node is passed when all that come from it have marked it.
use Rattle.std.proofs.Common.{◌≡◌, ℕ, ◌+◌, ◌<◌, ◌≤◌, ◌⊎◌, inl, inr, arith, refl, sym, ◌∙◌, ap, subst, Bool, true, false, List, length, length-set, set, replicate}
use Rattle.std.proofs.lemmas.List.{get_or-set_same, get_or-set_other, get_or_past, get_or-replicate, length-replicate}
use Rattle.order_rules.specs.Form.{Form, Start, Same, After, Sync, Join, Side, Merge}
use Rattle.order_rules.specs.Entry.{IsEarlier}
use Rattle.pulse_nets.specs.declared.node.Shape.{Shape}
use Rattle.pulse_nets.specs.Pulses.{form_of}
use Rattle.turn_machine.specs.Reached.{IsReached, at_last, by_same, by_join, by_other_join, by_merge, by_other_merge}
use Rattle.turn_plans.specs.Read.{AreTails, AreEarlier, shape_at, tail_at, marked_by}
use Rattle.turn_plans.proofs.Wired.{same_or_other}

-- the predecessors of a node of the tail of this form are marked
abbrev pub PredecessorsMarked : List Bool → Form ℕ → Type 0
PredecessorsMarked tails Start = Unit {0}
PredecessorsMarked tails (Same from) = tail_at tails from ≡ true
PredecessorsMarked tails (After delay from) = Unit {0}
PredecessorsMarked tails (Sync from) = Unit {0}
PredecessorsMarked tails (Join first second) = (tail_at tails first ≡ true) × (tail_at tails second ≡ true)
PredecessorsMarked tails (Side from) = Unit {0}
PredecessorsMarked tails (Merge first second) = (tail_at tails first ≡ true) × (tail_at tails second ≡ true)

-- a node comes with this one
abbrev pub Comes : ℕ → Form ℕ → Type 0
Comes node Start = ⊥
Comes node (Same from) = node ≡ from
Comes node (After delay from) = ⊥
Comes node (Sync from) = ⊥
Comes node (Join first second) = (node ≡ first) ⊎ (node ≡ second)
Comes node (Side from) = ⊥
Comes node (Merge first second) = (node ≡ first) ⊎ (node ≡ second)

never_marked : (tails : List Bool) (node : ℕ) → length tails ≤ node → tail_at tails node ≡ true → ⊥
never_marked tails node past marked = let none = get_or_past tails node false past in cc

set_keeps : (tails : List Bool) (from node : ℕ) → tail_at tails node ≡ true → tail_at (set tails from true) node ≡ true
set_keeps tails from node marked = by_node (same_or_other node from)
  where
    inside : (n : ℕ) → (n < length tails) ⊎ (length tails ≤ n)
    inside n = grind arith

    by_place : node ≡ from → (node < length tails) ⊎ (length tails ≤ node) → tail_at (set tails from true) node ≡ true
    by_place same (inl is_inside) = ap (tail_at (set tails from true)) same ∙ get_or-set_same tails from true false (omega arith)
    by_place same (inr past) = absurd (never_marked tails node past marked)

    by_node : (node ≡ from) ⊎ (node ≡ from → ⊥) → tail_at (set tails from true) node ≡ true
    by_node (inl same) = by_place same (inside node)
    by_node (inr different) = get_or-set_other tails from node true false different ∙ marked

set_back : (tails : List Bool) (from node : ℕ) → tail_at (set tails from true) node ≡ true → (tail_at tails node ≡ true) ⊎ (node ≡ from)
set_back tails from node marked = by_node (same_or_other node from)
  where
    by_node : (node ≡ from) ⊎ (node ≡ from → ⊥) → (tail_at tails node ≡ true) ⊎ (node ≡ from)
    by_node (inl same) = inr same
    by_node (inr different) = inl (sym (get_or-set_other tails from node true false different) ∙ marked)

two_back : (tails : List Bool) (first second node : ℕ) → tail_at (set (set tails first true) second true) node ≡ true → (tail_at tails node ≡ true) ⊎ ((node ≡ first) ⊎ (node ≡ second))
two_back tails first second node marked = by_second (set_back (set tails first true) second node marked)
  where
    by_first : (tail_at tails node ≡ true) ⊎ (node ≡ first) → (tail_at tails node ≡ true) ⊎ ((node ≡ first) ⊎ (node ≡ second))
    by_first (inl before) = inl before
    by_first (inr same) = inr (inl same)

    by_second : (tail_at (set tails first true) node ≡ true) ⊎ (node ≡ second) → (tail_at tails node ≡ true) ⊎ ((node ≡ first) ⊎ (node ≡ second))
    by_second (inl before) = by_first (set_back tails first node before)
    by_second (inr same) = inr (inr same)

two_keep : (tails : List Bool) (first second node : ℕ) → tail_at tails node ≡ true → tail_at (set (set tails first true) second true) node ≡ true
two_keep tails first second node marked = set_keeps (set tails first true) second node (set_keeps tails first node marked)

marked_keeps : (form : Form ℕ) (tails : List Bool) (node : ℕ) → tail_at tails node ≡ true → tail_at (marked_by form tails) node ≡ true
marked_keeps Start tails node marked = marked
marked_keeps (Same from) tails node marked = set_keeps tails from node marked
marked_keeps (After delay from) tails node marked = marked
marked_keeps (Sync from) tails node marked = marked
marked_keeps (Join first second) tails node marked = two_keep tails first second node marked
marked_keeps (Side from) tails node marked = marked
marked_keeps (Merge first second) tails node marked = two_keep tails first second node marked

marked_back : (form : Form ℕ) (tails : List Bool) (node : ℕ) → tail_at (marked_by form tails) node ≡ true → (tail_at tails node ≡ true) ⊎ Comes node form
marked_back Start tails node marked = inl marked
marked_back (Same from) tails node marked = set_back tails from node marked
marked_back (After delay from) tails node marked = inl marked
marked_back (Sync from) tails node marked = inl marked
marked_back (Join first second) tails node marked = two_back tails first second node marked
marked_back (Side from) tails node marked = inl marked
marked_back (Merge first second) tails node marked = two_back tails first second node marked

two_count : (tails : List Bool) (first second : ℕ) → length (set (set tails first true) second true) ≡ length tails
two_count tails first second = length-set (set tails first true) second true ∙ length-set tails first true

marked_count : (form : Form ℕ) (tails : List Bool) → length (marked_by form tails) ≡ length tails
marked_count Start tails = refl
marked_count (Same from) tails = length-set tails from true
marked_count (After delay from) tails = refl
marked_count (Sync from) tails = refl
marked_count (Join first second) tails = two_count tails first second
marked_count (Side from) tails = refl
marked_count (Merge first second) tails = two_count tails first second

two_marked : (tails : List Bool) (first second : ℕ) → first < length tails → second < length tails
    → (tail_at (set (set tails first true) second true) first ≡ true) × (tail_at (set (set tails first true) second true) second ≡ true)
two_marked tails first second inside also = (
  set_keeps (set tails first true) second first (get_or-set_same tails first true false inside),
  get_or-set_same (set tails first true) second true false (let same = length-set tails first true in omega arith),
)

are_marked : (form : Form ℕ) (tails : List Bool) (node : ℕ) → node ≤ length tails → IsEarlier node form → PredecessorsMarked (marked_by form tails) form
are_marked Start tails node few earlier = tt
are_marked (Same from) tails node few earlier = get_or-set_same tails from true false (let e : from < node = earlier in omega arith)
are_marked (After delay from) tails node few earlier = tt
are_marked (Sync from) tails node few earlier = tt
are_marked (Join first second) tails node few earlier = two_marked tails first second (let e = earlier.0 in omega arith) (let e = earlier.1 in omega arith)
are_marked (Side from) tails node few earlier = tt
are_marked (Merge first second) tails node few earlier = two_marked tails first second (let e = earlier.0 in omega arith) (let e = earlier.1 in omega arith)

still_marked : (form : Form ℕ) (tails more : List Bool) → ((node : ℕ) → tail_at tails node ≡ true → tail_at more node ≡ true) → PredecessorsMarked tails form → PredecessorsMarked more form
still_marked Start tails more keeps marked = tt
still_marked (Same from) tails more keeps marked = keeps from marked
still_marked (After delay from) tails more keeps marked = tt
still_marked (Sync from) tails more keeps marked = tt
still_marked (Join first second) tails more keeps marked = (keeps first marked.0, keeps second marked.1)
still_marked (Side from) tails more keeps marked = tt
still_marked (Merge first second) tails more keeps marked = (keeps first marked.0, keeps second marked.1)

module _ (shapes : List Shape) (last : ℕ) where
  -- what is marked is reached, and the nodes from this one on have marked their predecessors
  pub record MarkedFrom (from : ℕ) (tails : List Bool) : Type 0 where
    pub inside : from ≤ length shapes
    pub count : length tails ≡ length shapes
    pub sound : (node : ℕ) → tail_at tails node ≡ true → IsReached (λ n. form_of (shape_at shapes n)) last node
    pub last_marked : tail_at tails last ≡ true
    pub closed : (node : ℕ) → from ≤ node → tail_at tails node ≡ true → PredecessorsMarked tails (form_of (shape_at shapes node))

  pub marked_start : (tails : List Bool) → last < length shapes → tails ≡ set (replicate (length shapes) false) last true → MarkedFrom (length shapes) tails
  marked_start tails inside are = subst (MarkedFrom (length shapes)) (sym are) start
    where
      none : List Bool
      none = replicate (length shapes) false

      none_marked : (node : ℕ) → tail_at none node ≡ true → ⊥
      none_marked node marked = by_place (place node)
        where
          place : (n : ℕ) → (n < length shapes) ⊎ (length shapes ≤ n)
          place n = grind arith

          by_place : (node < length shapes) ⊎ (length shapes ≤ node) → ⊥
          by_place (inl i) = let unmarked = get_or-replicate (length shapes) node false false i in cc
          by_place (inr i) = never_marked none node (let k = length-replicate (length shapes) false in omega arith) marked

      sound_at : (node : ℕ) → (tail_at none node ≡ true) ⊎ (node ≡ last) → IsReached (λ n. form_of (shape_at shapes n)) last node
      sound_at node (inl marked) = absurd (none_marked node marked)
      sound_at node (inr same) = subst (IsReached (λ n. form_of (shape_at shapes n)) last) (sym same) at_last

      counted : length (set none last true) ≡ length shapes
      counted = length-set none last true ∙ length-replicate (length shapes) false

      start : MarkedFrom (length shapes) (set none last true)
      start = record {
        inside = omega arith;
        count = counted;
        sound = λ node marked. sound_at node (set_back none last node marked);
        last_marked = get_or-set_same none last true false (let k = length-replicate (length shapes) false in omega arith);
        closed = λ node past marked. absurd (never_marked (set none last true) node (let k = counted in omega arith) marked);
      }

  comes_reached : (node from : ℕ) (form : Form ℕ) → form_of (shape_at shapes node) ≡ form → Comes from form → IsReached (λ n. form_of (shape_at shapes n)) last node → IsReached (λ n. form_of (shape_at shapes n)) last from
  comes_reached node from Start is comes reached = elim comes [ ]
  comes_reached node from (Same other) is same reached = subst (IsReached (λ n. form_of (shape_at shapes n)) last) (sym same) (by_same is reached)
  comes_reached node from (After delay other) is comes reached = elim comes [ ]
  comes_reached node from (Sync other) is comes reached = elim comes [ ]
  comes_reached node from (Join first second) is (inl same) reached = subst (IsReached (λ n. form_of (shape_at shapes n)) last) (sym same) (by_join is reached)
  comes_reached node from (Join first second) is (inr same) reached = subst (IsReached (λ n. form_of (shape_at shapes n)) last) (sym same) (by_other_join is reached)
  comes_reached node from (Side other) is comes reached = elim comes [ ]
  comes_reached node from (Merge first second) is (inl same) reached = subst (IsReached (λ n. form_of (shape_at shapes n)) last) (sym same) (by_merge is reached)
  comes_reached node from (Merge first second) is (inr same) reached = subst (IsReached (λ n. form_of (shape_at shapes n)) last) (sym same) (by_other_merge is reached)

  -- a node that is none of the tail marks nothing
  pub marked_past : (node more : ℕ) (tails : List Bool) → more ≡ node + 1 → tail_at tails node ≡ false → MarkedFrom more tails → MarkedFrom node tails
  marked_past node more tails next unmarked so_far = record {
    inside = let i = so_far.inside in omega arith;
    count = so_far.count;
    sound = so_far.sound;
    last_marked = so_far.last_marked;
    closed = λ other past marked. by_node other past marked (same_or_other other node);
  }
    where
      by_node : (other : ℕ) → node ≤ other → tail_at tails other ≡ true → (other ≡ node) ⊎ (other ≡ node → ⊥) → PredecessorsMarked tails (form_of (shape_at shapes other))
      by_node other past marked (inl same) = let here : tail_at tails other ≡ false = ap (tail_at tails) same ∙ unmarked in absurd cc
      by_node other past marked (inr different) = so_far.closed other (let later : more ≤ other = above other past different in omega arith) marked
        where
          above : (other : ℕ) → node ≤ other → (other ≡ node → ⊥) → more ≤ other
          above other past different = by_order (order other)
            where
              order : (n : ℕ) → (n ≤ node) ⊎ (node < n)
              order n = grind arith

              by_order : (other ≤ node) ⊎ (node < other) → more ≤ other
              by_order (inl i) = absurd (different (omega arith))
              by_order (inr i) = omega arith

  -- a node of the tail marks its predecessors
  pub marked_down : AreEarlier shapes → (node more : ℕ) (tails new : List Bool) → more ≡ node + 1 → tail_at tails node ≡ true → new ≡ marked_by (form_of (shape_at shapes node)) tails → MarkedFrom more tails → MarkedFrom node new
  marked_down earlier node more tails new next marked_here are so_far = subst (MarkedFrom node) (sym are) down
    where
      form : Form ℕ
      form = form_of (shape_at shapes node)

      sound_at : (other : ℕ) → (tail_at tails other ≡ true) ⊎ Comes other form → IsReached (λ n. form_of (shape_at shapes n)) last other
      sound_at other (inl before) = so_far.sound other before
      sound_at other (inr comes) = comes_reached node other form refl comes (so_far.sound node marked_here)

      later_marked : (other : ℕ) → node < other → (tail_at tails other ≡ true) ⊎ Comes other form → tail_at tails other ≡ true
      later_marked other past (inl before) = before
      later_marked other past (inr comes) = absurd (early form (earlier node) comes)
        where
          early : (f : Form ℕ) → IsEarlier node f → Comes other f → ⊥
          early Start e comes = elim comes [ ]
          early (Same from) e same = let i : from < node = e in omega arith
          early (After delay from) e comes = elim comes [ ]
          early (Sync from) e comes = elim comes [ ]
          early (Join first second) e (inl same) = let i = e.0 in omega arith
          early (Join first second) e (inr same) = let i = e.1 in omega arith
          early (Side from) e comes = elim comes [ ]
          early (Merge first second) e (inl same) = let i = e.0 in omega arith
          early (Merge first second) e (inr same) = let i = e.1 in omega arith

      by_order : (other : ℕ) → (other ≤ node) ⊎ (node < other) → node ≤ other → tail_at (marked_by form tails) other ≡ true → PredecessorsMarked (marked_by form tails) (form_of (shape_at shapes other))
      by_order other (inl i) past marked =
          let same : node ≡ other = omega arith in
          subst (λ n. PredecessorsMarked (marked_by form tails) (form_of (shape_at shapes n))) same (are_marked form tails node (let k = so_far.inside in let c = so_far.count in omega arith) (earlier node))
      by_order other (inr i) past marked =
          still_marked (form_of (shape_at shapes other)) tails (marked_by form tails) (marked_keeps form tails) (so_far.closed other (omega arith) (later_marked other i (marked_back form tails other marked)))

      order : (n : ℕ) → (n ≤ node) ⊎ (node < n)
      order n = grind arith

      down : MarkedFrom node (marked_by form tails)
      down = record {
        inside = let i = so_far.inside in omega arith;
        count = marked_count form tails ∙ so_far.count;
        sound = λ other marked. sound_at other (marked_back form tails other marked);
        last_marked = marked_keeps form tails last so_far.last_marked;
        closed = λ other past marked. by_order other (order other) past marked;
      }

  pub marked_all : (from : ℕ) (tails : List Bool) → from ≡ 0 → MarkedFrom from tails → AreTails shapes last tails
  marked_all from tails none so_far = record { count = so_far.count; reached = λ node. (so_far.sound node, back) }
    where
      closed : (node : ℕ) (form : Form ℕ) → form_of (shape_at shapes node) ≡ form → tail_at tails node ≡ true → PredecessorsMarked tails form
      closed node form is marked = subst (PredecessorsMarked tails) is (so_far.closed node (omega arith) marked)

      back : {node : ℕ} → IsReached (λ n. form_of (shape_at shapes n)) last node → tail_at tails node ≡ true
      back at_last = so_far.last_marked
      back (by_same {node = node} is reached) = closed node _ is (back reached)
      back (by_join {node = node} is reached) = (closed node _ is (back reached)).0
      back (by_other_join {node = node} is reached) = (closed node _ is (back reached)).1
      back (by_merge {node = node} is reached) = (closed node _ is (back reached)).0
      back (by_other_merge {node = node} is reached) = (closed node _ is (back reached)).1
