-- The graph of two turns stands for their points.
--
-- Each turn by itself is as in the graph of one; the first point of the later one shares the node of the end of the earlier.
use Rattle.std.proofs.Common.{◌≡◌, ℕ, suc, ◌+◌, ◌<◌, ◌⊎◌, inl, inr, arith, refl, sym, ◌∙◌, ap, subst, Bool, true, false, List, [], ◌∷◌, ◌++◌, length, length-append, slice_get}
use Rattle.std.proofs.lemmas.List.{append-nil}
use Rattle.order_rules.specs.Form.{Form, Start, Same, After, Sync, Join, Side, Merge}
use Rattle.order_rules.specs.Laws as nodes
use Rattle.order_rules.specs.Standing.{map_form, Chain, stop, same, IsPoint, AllOf, Stands}
use Rattle.core_term.specs.Term.{Term}
use Rattle.core_term.specs.Points.{Spot, Formed, forms}
use Rattle.core_term.specs.Order.{Point, point, IsFormed, HasForm, Exclusive}
use Rattle.core_term.specs.Numbering.{Numbered}
use Rattle.event_graph.specs.declared.node.Arm.{Arm}
use Rattle.event_graph.specs.Forms.{form_at, arms_at, apart_at, some_oppose}
use Rattle.event_points.specs.Owned.{begin_of, end_of, owned, count}
use Rattle.event_points.specs.Placed.{Placed, Lies}
use Rattle.event_points.specs.Table.{end_node, node_in, arms_in}
use Rattle.event_points.specs.Nodes.{once, twice, first_table, second_table, first_events, second_events, node_of, turn_number, arms_of}
use Rattle.event_points.proofs.Steps.{Owns, steps, length_owned}
use Rattle.event_points.proofs.Along.{All, all_at, term_end}
use Rattle.event_points.proofs.InTable.{body_told, body_begin, body_end}
use Rattle.event_points.proofs.Named.{named, named_at}
use Rattle.event_points.proofs.Way.{PointOf, begin_point, points}
use Rattle.event_points.proofs.OneTurn.{Stood, stood, head_lies, map_map}
use Rattle.event_points.proofs.Reading.{spots, root_in, Owned, owns_from, read_after, length_drawn, length_spots}
use Rattle.event_points.proofs.Excluded.{excluded, excluded_back, other_turn}
use Rattle.event_points.proofs.Proper.{proper, steps_at, all_of}
use Rattle.event_graph.proofs.Early.{all_early}
use Rattle.event_graph.proofs.Drawn.{drawn_append}
use Rattle.event_points.proofs.Early.{early, drawn_early}
use Rattle.event_points.proofs.Inside.{Within, within}
use Rattle.event_points.specs.Graphs.{IsGraphTwice}
use Rattle.event_graph.specs.Event.{AreDrawn}

module _ (body : Term) (numbered : Numbered [] 0 body) where
  abbrev node : Point → ℕ
  node = node_of body

  abbrev arms : Bool → Spot → List Arm
  arms l b = arms_of body (point l b)

  abbrev form : ℕ → Form ℕ
  form = form_at (twice body)

  abbrev armed : ℕ → List Arm
  armed = arms_at (twice body)

  abbrev IsPlace : Point → Type 0
  IsPlace = IsPoint Point (HasForm body)

  abbrev pub roots : List Point
  roots = point false (begin_of body) ∷ spots (point false) (owned body) ++ spots (point true) (owned body)

  abbrev pub root : ℕ → Point
  root = root_in (point false (begin_of body)) roots

  formed : (l : Bool) (b : Spot) (f : Form Spot) → IsFormed (forms body) b f → HasForm body (point l b) (map_form (point l) f)
  formed l b Start i = absurd (proper body b Start i)
  formed l b (Same c) i = inl (refl, i)
  formed l b (After k c) i = (refl, i)
  formed l b (Sync c) i = (refl, i)
  formed l b (Join c e) i = (refl, refl, i)
  formed l b (Side c) i = (refl, i)
  formed l b (Merge c e) i = (refl, refl, i)

  abbrev from : Bool → ℕ
  from false = 1
  from true = 1 + count body

  told : (l : Bool) → Placed (λ s. node (point l s)) (from l) body × Lies (turn_number l) (arms l) [] body
  told false = body_told 1 1 0 body numbered
  told true = body_told 2 (1 + count body) (end_node 1 0 body) body numbered

  begins : node (point false (begin_of body)) ≡ 0
  begins = body_begin 1 1 0 body numbered

  begins_next : node (point true (begin_of body)) ≡ node (point false (end_of body))
  begins_next = body_begin 2 (1 + count body) (end_node 1 0 body) body numbered ∙ sym (body_end 1 1 0 body numbered)

  abbrev Mine : Bool → ℕ → Formed → Type 0
  Mine l = Owned (turn_number l) Point (HasForm body) (point l) node (twice body) roots (point false (begin_of body)) (arms l) body (formed l)

  at_once : {X : Type 0} (x : X) (xs : List X) (k : ℕ) → slice_get (x ∷ xs) (1 + k) ≡ slice_get xs k
  at_once x xs k = let P : ℕ → Type 0 = λ z. slice_get (x ∷ xs) z ≡ slice_get xs k in let e : suc k ≡ 1 + k = omega arith in subst P e refl

  owns : (l : Bool) → Owns (λ s. node (point l s)) (Mine l) (from l) (owned body)
  owns false =
      owns_from 1 Point (HasForm body) (point false) node (twice body) roots (point false (begin_of body)) (arms false) body (formed false) 1 (owned body) (second_events body) (spots (point true) (owned body))
      (λ k. at_once _ (first_events body ++ second_events body) k)
      (λ k. at_once _ (spots (point false) (owned body) ++ spots (point true) (owned body)) k)
  owns true =
      let l = length_owned body in
      owns_from 2 Point (HasForm body) (point true) node (twice body) roots (point false (begin_of body)) (arms true) body (formed true) (1 + count body) (owned body) [] []
      (λ k. read_after (1 + count body) k (once body) (second_events body) (omega (arith, length_drawn (node_in (first_table body)) (arms_in 1 (first_table body)) (owned body))) ∙ ap (λ z. slice_get z k) (sym (append-nil (second_events body))))
      (λ k. read_after (1 + count body) k (point false (begin_of body) ∷ spots (point false) (owned body)) (spots (point true) (owned body)) (omega (arith, length_spots (point false) (owned body))) ∙ ap (λ z. slice_get z k) (sym (append-nil (spots (point true) (owned body)))))

  abbrev Known : Bool → Spot → Type 0
  Known l = Stood (turn_number l) Point (HasForm body) (point l) node form armed (arms l) root body (formed l)

  first : Known false (begin_of body)
  first =
      let R : ℕ → Type 0 = λ z. Chain Point (HasForm body) (root z) (point false (begin_of body)) in
      let F : ℕ → Type 0 = λ z. HasForm body (root z) Start in
      record {
        chain = subst R (sym begins) stop;
        root_form = Start;
        root_formed = subst F (sym begins) (refl, refl);
        root_is = ap form (sym begins);
        arms_are = ap armed begins ∙ sym (head_lies 1 (arms false) [] body (told false).1).term_begin;
      }

  first_known : All (Known false) (forms body)
  first_known = stood 1 Point (HasForm body) (point false) node form armed (arms false) root body (formed false) 1 (told false).0 (told false).1 (owns false) first

  next : Known true (begin_of body)
  next =
      let e = term_end (Known false) body first_known in
      let R : ℕ → Type 0 = λ z. Chain Point (HasForm body) (root z) (point true (begin_of body)) in
      let F : ℕ → Type 0 = λ z. HasForm body (root z) e.root_form in
      record {
        chain = subst R (sym begins_next) (same (inr (refl, refl, refl, refl)) e.chain);
        root_form = e.root_form;
        root_formed = subst F (sym begins_next) e.root_formed;
        root_is = e.root_is ∙ ap form (sym begins_next);
        arms_are = ap armed begins_next ∙ (e.arms_are ∙ ((head_lies 1 (arms false) [] body (told false).1).term_end ∙ sym (head_lies 2 (arms true) [] body (told true).1).term_begin));
      }

  all_known : (l : Bool) → All (Known l) (forms body)
  all_known false = first_known
  all_known true = stood 2 Point (HasForm body) (point true) node form armed (arms true) root body (formed true) (1 + count body) (told true).0 (told true).1 (owns true) next

  -- the three ways in which a point has a form
  Seen : Point → Form Point → Type 0
  Seen b f = ((b ≡ point false (begin_of body)) × (f ≡ Start)) ⊎ (((b ≡ point true (begin_of body)) × (f ≡ Same (point false (end_of body)))) ⊎ ((g : Form Spot) × IsFormed (forms body) b.spot g × (f ≡ map_form (point b.late) g)))

  at_late : (l : Bool) (c : Point) → l ≡ c.late → c ≡ point l c.spot
  at_late l c e = let P : Bool → Type 0 = λ z. c ≡ point z c.spot in subst P (sym e) refl

  point_is : (b : Point) (l : Bool) (s : Spot) → b.late ≡ l → b.spot ≡ s → b ≡ point l s
  point_is b l s e f = at_late l b (sym e) ∙ ap (point l) f

  seen : (b : Point) (f : Form Point) → HasForm body b f → Seen b f
  unfolding Seen
  seen b Start h = inl (point_is b false (begin_of body) h.0 h.1, refl)
  seen b (Same c) (inr h) = inr (inl (point_is b true (begin_of body) h.0 h.1, ap (λ (z : Point). Same z) (point_is c false (end_of body) h.2 h.3)))
  seen b (Same c) (inl h) = inr (inr (Same c.spot, h.1, ap (λ (z : Point). Same z) (at_late b.late c h.0)))
  seen b (After k c) h = inr (inr (After k c.spot, h.1, ap (λ (z : Point). After k z) (at_late b.late c h.0)))
  seen b (Sync c) h = inr (inr (Sync c.spot, h.1, ap (λ (z : Point). Sync z) (at_late b.late c h.0)))
  seen b (Side c) h = inr (inr (Side c.spot, h.1, ap (λ (z : Point). Side z) (at_late b.late c h.0)))
  seen b (Join c e) h = inr (inr (Join c.spot e.spot, h.2, ap (λ (z : Point). Join z e) (at_late b.late c h.0) ∙ ap (λ (z : Point). Join (point b.late c.spot) z) (at_late b.late e h.1)))
  seen b (Merge c e) h = inr (inr (Merge c.spot e.spot, h.2, ap (λ (z : Point). Merge z e) (at_late b.late c h.0) ∙ ap (λ (z : Point). Merge (point b.late c.spot) z) (at_late b.late e h.1)))

  known : (b : Point) (f : Form Point) → HasForm body b f → Known b.late b.spot
  unfolding Seen
  known b f h =
      let P : Point → Type 0 = λ z. Known z.late z.spot in
      elim (seen b f h) [ inl k ↦ subst P (sym k.0) first | inr j ↦ elim j [ inl k ↦ subst P (sym k.0) next | inr k ↦ all_at (Known b.late) (forms body) (all_known b.late) b.spot k.0 k.1 ] ]

  is_point : (b : Point) (f : Form Point) → HasForm body b f → PointOf body b.spot
  unfolding Seen
  is_point b f h =
      let P : Point → Type 0 = λ z. PointOf body z.spot in
      elim (seen b f h) [ inl k ↦ subst P (sym k.0) (begin_point body) | inr j ↦ elim j [ inl k ↦ subst P (sym k.0) (begin_point body) | inr k ↦ all_at (PointOf body) (forms body) (points body) b.spot k.0 k.1 ] ]

  all_places : (l : Bool) → All (λ s. IsPlace (point l s)) (forms body)
  all_places l = all_of (λ s. IsPlace (point l s)) (forms body) (λ b f i. (map_form (point l) f, formed l b f i))

  begin_place : (l : Bool) → IsPlace (point l (begin_of body))
  begin_place false = (Start, (refl, refl))
  begin_place true = (Same (point false (end_of body)), inr (refl, refl, refl, refl))

  preds : (l : Bool) (b : Spot) (f : Form Spot) → IsFormed (forms body) b f → AllOf (λ s. IsPlace (point l s)) f
  preds l b f i = named_at (λ s. IsPlace (point l s)) (forms body) (named (λ s. IsPlace (point l s)) [] 0 body numbered (λ y k. elim k [ ]) (begin_place l) (all_places l)) b f i

  all_map : (l : Bool) (f : Form Spot) → AllOf (λ s. IsPlace (point l s)) f → AllOf IsPlace (map_form (point l) f)
  all_map l Start k = k
  all_map l (Same c) k = k
  all_map l (After m c) k = k
  all_map l (Sync c) k = k
  all_map l (Join c e) k = k
  all_map l (Side c) k = k
  all_map l (Merge c e) k = k

  pred : (b : Point) (f : Form Point) → HasForm body b f → AllOf IsPlace f
  unfolding Seen
  pred b f h =
      let P : Form Point → Type 0 = λ z. AllOf IsPlace z in
      elim (seen b f h) [ inl k ↦ subst P (sym k.1) tt | inr j ↦ elim j [ inl k ↦ subst P (sym k.1) (term_end (λ s. IsPlace (point false s)) body (all_places false)) | inr k ↦ subst P (sym k.2) (all_map b.late k.0 (preds b.late b.spot k.0 k.1)) ] ]

  abbrev Steps' : Point → Form Point → Type 0
  Steps' b f = ((c : Point) × (f ≡ Same c) × (node b ≡ node c)) ⊎ (form (node b) ≡ map_form node f)

  one_step : (l : Bool) (b : Spot) (g : Form Spot) → IsFormed (forms body) b g → Steps' (point l b) (map_form (point l) g)
  one_step l b g i =
      elim (steps_at (λ s. node (point l s)) (Mine l) (forms body) (steps (λ s. node (point l s)) (Mine l) (from l) body (told l).0 (owns l)) b g i) [
        | inl k ↦ inl (point l k.0, ap (map_form (point l)) k.1, k.2)
        | inr o ↦ inr (o.form_is ∙ sym (map_map (point l) node g))
      ]

  step : (b : Point) (f : Form Point) → HasForm body b f → Steps' b f
  unfolding Seen
  step b f h =
      elim (seen b f h) [
        | inl k ↦ inr (ap form (ap node k.0 ∙ begins) ∙ ap (map_form node) (sym k.1))
        | inr j ↦ elim j [
          | inl k ↦ inl (point false (end_of body), k.1, ap node k.0 ∙ begins_next)
          | inr k ↦ subst (Steps' b) (sym k.2) (one_step b.late b.spot k.0 k.1)
        ]
      ]

  differ : (l m : Bool) → (l ≡ m) ⊎ (turn_number l ≡ turn_number m → ⊥)
  differ true true = inl refl
  differ false false = inl refl
  differ true false = inr (λ e. absurd (omega arith))
  differ false true = inr (λ e. absurd (omega arith))

  apart_back : (l m : Bool) (a b : Spot) → PointOf body a → PointOf body b → some_oppose (arms l a) (arms m b) ≡ true → Exclusive body (point l a) (point m b)
  apart_back l m a b p q e =
      elim (differ l m) [
        | inl z ↦
            let P : Bool → Type 0 = λ v. some_oppose (arms l a) (arms v b) ≡ true in
            (z, excluded_back (turn_number l) (arms l) body numbered (told l).1 a b p q (subst P (sym z) e))
        | inr z ↦ absurd (other_turn (turn_number l) (turn_number m) (arms l) (arms m) body z numbered (told l).1 (told m).1 a b p q e)
      ]

  apart : (l m : Bool) (a b : Spot) → PointOf body a → PointOf body b → Exclusive body (point l a) (point m b) → some_oppose (arms l a) (arms m b) ≡ true
  apart l m a b p q e = let P : Bool → Type 0 = λ v. some_oppose (arms l a) (arms v b) ≡ true in subst P e.0 (excluded (turn_number l) (arms l) body numbered (told l).1 a b p q e.1)

  pub stands : Stands Point ℕ (HasForm body) (nodes.HasForm form) (Exclusive body) (nodes.Apart (apart_at (twice body))) node
  stands = record {
    pred = pred;
    step = step;
    root = λ b p g k. let z = known b p.0 p.1 in (root (node b), z.root_form, z.chain, z.root_formed, z.root_is ∙ k);
    one = λ a b p q e.
        let y = known a p.0 p.1 in
        let z = known b q.0 q.1 in
        let R : ℕ → Type 0 = λ m. Chain Point (HasForm body) (root m) b in
        (root (node a), y.chain, subst R (sym e) z.chain);
    apart = λ a b p q k. rw ((known a p.0 p.1).arms_are, (known b q.0 q.1).arms_are) (apart a.late b.late a.spot b.spot (is_point a p.0 p.1) (is_point b q.0 q.1) k);
    apart_back = λ a b p q k.
        let e : some_oppose (arms a.late a.spot) (arms b.late b.spot) ≡ true = rw ((known a p.0 p.1).arms_are, (known b q.0 q.1).arms_are) at k in
        apart_back a.late b.late a.spot b.spot (is_point a p.0 p.1) (is_point b q.0 q.1) e;
  }

  -- each node comes from earlier ones
  early_first : (node (point false (end_of body)) < 1 + count body) × AreDrawn 1 (first_events body)
  early_first =
      let b = begins in
      let z = early (λ s. node (point false s)) [] 0 1 body numbered (told false).0 (omega arith) (λ y i. elim i [ ]) in
      (z.1, drawn_early (λ s. node (point false s)) (arms false) 1 (owned body) z.0)

  early_second : AreDrawn (1 + count body) (second_events body)
  early_second =
      let b = begins_next in
      let e = early_first.0 in
      let z = early (λ s. node (point true s)) [] 0 (1 + count body) body numbered (told true).0 (omega arith) (λ y i. elim i [ ]) in
      drawn_early (λ s. node (point true s)) (arms true) (1 + count body) (owned body) z.0

  length_first : length (first_events body) ≡ count body
  length_first = omega (arith, length_drawn (node_in (first_table body)) (arms_in 1 (first_table body)) (owned body), length_owned body)

  length_second : length (second_events body) ≡ count body
  length_second = omega (arith, length_drawn (node_in (second_table body)) (arms_in 2 (second_table body)) (owned body), length_owned body)

  pub drawn_twice : AreDrawn 0 (twice body)
  drawn_twice = let e = length_first in (tt, drawn_append 1 (1 + count body) (first_events body) (second_events body) (omega arith) early_first.1 early_second)

  pub length_twice : length (twice body) ≡ 1 + count body + count body
  length_twice = let e = length_first in let f = length_second in omega (arith, length-append (first_events body) (second_events body))

  all_within : (l : Bool) → All (Within (λ s. node (point l s)) (length (twice body))) (forms body)
  all_within false =
      let b = begins in let k = length_twice in
      within (λ s. node (point false s)) (length (twice body)) 1 body (told false).0 (omega arith) (omega arith)
  all_within true =
      let b = begins_next in let k = length_twice in let e = early_first.0 in
      within (λ s. node (point true s)) (length (twice body)) (1 + count body) body (told true).0 (omega arith) (omega arith)

  begin_within : (l : Bool) → node (point l (begin_of body)) < length (twice body)
  begin_within false = let b = begins in let k = length_twice in omega arith
  begin_within true = let b = begins_next in let k = length_twice in let e = early_first.0 in omega arith

  inside : (b : Point) (f : Form Point) → HasForm body b f → node b < length (twice body)
  unfolding Seen
  inside b f h =
      let P : Point → Type 0 = λ z. node z < length (twice body) in
      elim (seen b f h) [
        | inl k ↦ subst P (sym k.0) (begin_within false)
        | inr j ↦ elim j [ inl k ↦ subst P (sym k.0) (begin_within true) | inr k ↦ all_at (Within (λ s. node (point b.late s)) (length (twice body))) (forms body) (all_within b.late) b.spot k.0 k.1 ]
      ]

  pub stand : IsGraphTwice body (twice body) node
  stand = record { earlier = all_early (twice body) drawn_twice; stands = stands; inside = λ b p. (inside b p.0 p.1, (known b p.0 p.1).arms_are) }

  -- the end of an act on a port has a node of its own
  pub end_root : (l : Bool) (b c : Spot) → IsFormed (forms body) b (Sync c) → root (node (point l b)) ≡ point l b
  end_root l b c i =
      elim (steps_at (λ s. node (point l s)) (Mine l) (forms body) (steps (λ s. node (point l s)) (Mine l) (from l) body (told l).0 (owns l)) b (Sync c) i) [
        | inl k ↦ let z : Sync c ≡ Same k.0 = k.1 in absurd cc
        | inr o ↦ o.root_is
      ]

  pub chain_of : (b : Point) → IsPlace b → Chain Point (HasForm body) (root (node b)) b
  chain_of b p = (known b p.0 p.1).chain

  pub end_place : (l : Bool) (b c : Spot) → IsFormed (forms body) b (Sync c) → IsPlace (point l b)
  end_place l b c i = (Sync (point l c), (refl, i))

  -- each point of a turn shares the node of its predecessor, or has a node of its own
  pub own_step : (l : Bool) (b : Spot) (f : Form Spot) → IsFormed (forms body) b f
      → ((c : Spot) × (f ≡ Same c) × (node (point l b) ≡ node (point l c))) ⊎ ((form (node (point l b)) ≡ map_form (λ s. node (point l s)) f) × (armed (node (point l b)) ≡ arms l b))
  own_step l b f i =
      elim (steps_at (λ s. node (point l s)) (Mine l) (forms body) (steps (λ s. node (point l s)) (Mine l) (from l) body (told l).0 (owns l)) b f i) [ inl k ↦ inl k | inr o ↦ inr (o.form_is, o.arms_is) ]

  pub lies_in : (l : Bool) → Lies (turn_number l) (arms l) [] body
  lies_in l = (told l).1

  pub start_node : node (point false (begin_of body)) ≡ 0
  start_node = begins

  pub next_node : node (point true (begin_of body)) ≡ node (point false (end_of body))
  next_node = begins_next

  pub node_within : (l : Bool) (b : Spot) (f : Form Spot) → IsFormed (forms body) b f → node (point l b) < length (twice body)
  node_within l b f i = inside (point l b) (map_form (point l) f) (formed l b f i)

  pub seen_as : (b : Point) (f : Form Point) → HasForm body b f
      → (b ≡ point false (begin_of body)) ⊎ ((b ≡ point true (begin_of body)) ⊎ ((g : Form Spot) × IsFormed (forms body) b.spot g))
  unfolding Seen
  seen_as b f h = elim (seen b f h) [ inl k ↦ inl k.0 | inr j ↦ elim j [ inl k ↦ inr (inl k.0) | inr k ↦ inr (inr (k.0, k.1)) ] ]
