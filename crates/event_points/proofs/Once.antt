-- The graph of one turn stands for its points.
--
-- The first point has the node 0. All that is asked is read off what is known of each point (`OneTurn`), of its step (`Steps`) and of
-- its way (`Excluded`).
use Rattle.std.proofs.Common.{◌≡◌, ℕ, suc, ◌+◌, ◌<◌, ◌⊎◌, inl, inr, arith, refl, sym, ◌∙◌, ap, subst, true, List, [], ◌∷◌, ◌++◌, length, slice_get}
use Rattle.std.proofs.lemmas.List.{append-nil}
use Rattle.order_rules.specs.Form.{Form, Start, Same, After, Sync, Join, Side, Merge}
use Rattle.order_rules.specs.Laws as nodes
use Rattle.order_rules.specs.Standing.{map_form, Chain, stop, IsPoint, AllOf, Stands}
use Rattle.core_term.specs.Term.{Term}
use Rattle.core_term.specs.Points.{Spot, TermBegin, Formed, forms}
use Rattle.core_term.specs.Order.{IsFormed, Apart}
use Rattle.core_term.specs.Numbering.{Numbered, OneOf}
use Rattle.event_graph.specs.declared.node.Arm.{Arm}
use Rattle.event_graph.specs.Forms.{form_at, arms_at, apart_at, some_oppose}
use Rattle.event_points.specs.Owned.{begin_of, owned, count, drawn_all}
use Rattle.event_points.specs.Placed.{Placed, Lies}
use Rattle.event_points.specs.Table.{node_in, arms_in}
use Rattle.core_term.specs.Graph.{HasFormOnce}
use Rattle.event_points.specs.Nodes.{once, first_table, first_events}
use Rattle.event_points.proofs.Steps.{Owns, steps}
use Rattle.event_points.proofs.Along.{All, all_at}
use Rattle.event_points.proofs.InTable.{body_told, body_begin}
use Rattle.event_points.proofs.Named.{named, named_at}
use Rattle.event_points.proofs.Way.{PointOf, begin_point, points}
use Rattle.event_points.proofs.OneTurn.{Stood, stood, head_lies}
use Rattle.event_points.proofs.Reading.{spots, root_in, Owned, owns_from}
use Rattle.event_points.proofs.Excluded.{excluded, excluded_back}
use Rattle.event_points.proofs.Proper.{proper, steps_at, all_of}
use Rattle.event_points.proofs.Steps.{length_owned}
use Rattle.event_points.proofs.Reading.{length_drawn}
use Rattle.event_graph.proofs.Early.{all_early}
use Rattle.event_points.proofs.Early.{early, drawn_early}
use Rattle.event_points.proofs.Inside.{Within, within}
use Rattle.event_points.specs.Graphs.{IsGraphOnce}
use Rattle.event_graph.specs.Event.{AreDrawn}

module _ (body : Term) (numbered : Numbered [] 0 body) where
  abbrev node : Spot → ℕ
  node = node_in (first_table body)

  abbrev arms : Spot → List Arm
  arms = arms_in 1 (first_table body)

  abbrev IsPlace : Spot → Type 0
  IsPlace = IsPoint Spot (HasFormOnce body)

  abbrev roots : List Spot
  roots = begin_of body ∷ spots (λ s. s) (owned body)

  formed : (b : Spot) (f : Form Spot) → IsFormed (forms body) b f → HasFormOnce body b (map_form (λ s. s) f)
  formed b Start i = absurd (proper body b Start i)
  formed b (Same c) i = i
  formed b (After k c) i = i
  formed b (Sync c) i = i
  formed b (Join c e) i = i
  formed b (Side c) i = i
  formed b (Merge c e) i = i

  placed : Placed node 1 body
  placed = (body_told 1 1 0 body numbered).0

  lies : Lies 1 arms [] body
  lies = (body_told 1 1 0 body numbered).1

  begins : node (begin_of body) ≡ 0
  begins = body_begin 1 1 0 body numbered

  abbrev Mine : ℕ → Formed → Type 0
  Mine = Owned 1 Spot (HasFormOnce body) (λ s. s) node (once body) roots (begin_of body) arms body formed

  owns : Owns node Mine 1 (owned body)
  owns =
      owns_from 1 Spot (HasFormOnce body) (λ s. s) node (once body) roots (begin_of body) arms body formed 1 (owned body) [] []
      (λ k. let P : ℕ → Type 0 = λ z. slice_get (once body) z ≡ slice_get (drawn_all node arms (owned body) ++ []) k in let e : suc k ≡ 1 + k = omega arith in subst P e (ap (λ z. slice_get z k) (sym (append-nil (first_events body)))))
      (λ k. let P : ℕ → Type 0 = λ z. slice_get roots z ≡ slice_get (spots (λ s. s) (owned body) ++ []) k in let e : suc k ≡ 1 + k = omega arith in subst P e (ap (λ z. slice_get z k) (sym (append-nil (spots (λ s. s) (owned body))))))

  first : Stood 1 Spot (HasFormOnce body) (λ s. s) node (form_at (once body)) (arms_at (once body)) arms (root_in (begin_of body) roots) body formed (begin_of body)
  first =
      let R : ℕ → Type 0 = λ z. Chain Spot (HasFormOnce body) (root_in (begin_of body) roots z) (begin_of body) in
      let F : ℕ → Type 0 = λ z. HasFormOnce body (root_in (begin_of body) roots z) Start in
      record {
        chain = subst R (sym begins) stop;
        root_form = Start;
        root_formed = subst F (sym begins) refl;
        root_is = ap (form_at (once body)) (sym begins);
        arms_are = ap (arms_at (once body)) begins ∙ sym (head_lies 1 arms [] body lies).term_begin;
      }

  abbrev Known : Spot → Type 0
  Known = Stood 1 Spot (HasFormOnce body) (λ s. s) node (form_at (once body)) (arms_at (once body)) arms (root_in (begin_of body) roots) body formed

  all_known : All Known (forms body)
  all_known = stood 1 Spot (HasFormOnce body) (λ s. s) node (form_at (once body)) (arms_at (once body)) arms (root_in (begin_of body) roots) body formed 1 placed lies owns first

  known : (b : Spot) (f : Form Spot) → HasFormOnce body b f → Known b
  known b Start e = subst Known (sym e) first
  known b (Same c) i = all_at Known (forms body) all_known b _ i
  known b (After k c) i = all_at Known (forms body) all_known b _ i
  known b (Sync c) i = all_at Known (forms body) all_known b _ i
  known b (Join c e) i = all_at Known (forms body) all_known b _ i
  known b (Side c) i = all_at Known (forms body) all_known b _ i
  known b (Merge c e) i = all_at Known (forms body) all_known b _ i

  point_of : (b : Spot) (f : Form Spot) → HasFormOnce body b f → PointOf body b
  point_of b Start e = let P : Spot → Type 0 = λ z. PointOf body z in subst P (sym e) (begin_point body)
  point_of b (Same c) i = all_at (PointOf body) (forms body) (points body) b _ i
  point_of b (After k c) i = all_at (PointOf body) (forms body) (points body) b _ i
  point_of b (Sync c) i = all_at (PointOf body) (forms body) (points body) b _ i
  point_of b (Join c e) i = all_at (PointOf body) (forms body) (points body) b _ i
  point_of b (Side c) i = all_at (PointOf body) (forms body) (points body) b _ i
  point_of b (Merge c e) i = all_at (PointOf body) (forms body) (points body) b _ i

  no_scope : (y : ℕ) → OneOf [] y → IsPlace (TermBegin y)
  no_scope y i = elim i [ ]

  map_same : (f : Form Spot) → map_form (λ s. s) f ≡ f
  map_same Start = refl
  map_same (Same c) = refl
  map_same (After k c) = refl
  map_same (Sync c) = refl
  map_same (Join c e) = refl
  map_same (Side c) = refl
  map_same (Merge c e) = refl

  all_places : All IsPlace (forms body)
  all_places = all_of IsPlace (forms body) (λ b f i. (map_form (λ s. s) f, formed b f i))

  preds : (b : Spot) (f : Form Spot) → IsFormed (forms body) b f → AllOf IsPlace f
  preds b f i = named_at IsPlace (forms body) (named IsPlace [] 0 body numbered (λ y k. elim k [ ]) (Start, refl) all_places) b f i

  pred : (b : Spot) (f : Form Spot) → HasFormOnce body b f → AllOf IsPlace f
  pred b Start e = tt
  pred b (Same c) i = preds b _ i
  pred b (After k c) i = preds b _ i
  pred b (Sync c) i = preds b _ i
  pred b (Join c e) i = preds b _ i
  pred b (Side c) i = preds b _ i
  pred b (Merge c e) i = preds b _ i

  one_step : (b : Spot) (f : Form Spot) → IsFormed (forms body) b f → ((c : Spot) × (f ≡ Same c) × (node b ≡ node c)) ⊎ (form_at (once body) (node b) ≡ map_form node f)
  one_step b f i = elim (steps_at node Mine (forms body) (steps node Mine 1 body placed owns) b f i) [ inl k ↦ inl k | inr o ↦ inr o.form_is ]

  step : (b : Spot) (f : Form Spot) → HasFormOnce body b f → ((c : Spot) × (f ≡ Same c) × (node b ≡ node c)) ⊎ (form_at (once body) (node b) ≡ map_form node f)
  step b Start e = inr (ap (form_at (once body)) (ap node e ∙ begins))
  step b (Same c) i = one_step b _ i
  step b (After k c) i = one_step b _ i
  step b (Sync c) i = one_step b _ i
  step b (Join c e) i = one_step b _ i
  step b (Side c) i = one_step b _ i
  step b (Merge c e) i = one_step b _ i

  pub stands : Stands Spot ℕ (HasFormOnce body) (nodes.HasForm (form_at (once body))) (Apart body) (nodes.Apart (apart_at (once body))) node
  stands = record {
    pred = pred;
    step = step;
    root = λ b p g k. let z = known b p.0 p.1 in (root_in (begin_of body) roots (node b), z.root_form, z.chain, z.root_formed, z.root_is ∙ k);
    one = λ a b p q e.
        let y = known a p.0 p.1 in
        let z = known b q.0 q.1 in
        let R : ℕ → Type 0 = λ m. Chain Spot (HasFormOnce body) (root_in (begin_of body) roots m) b in
        (root_in (begin_of body) roots (node a), y.chain, subst R (sym e) z.chain);
    apart = λ a b p q k. rw ((known a p.0 p.1).arms_are, (known b q.0 q.1).arms_are) (excluded 1 arms body numbered lies a b (point_of a p.0 p.1) (point_of b q.0 q.1) k);
    apart_back = λ a b p q k.
        let e : some_oppose (arms a) (arms b) ≡ true = rw ((known a p.0 p.1).arms_are, (known b q.0 q.1).arms_are) at k in
        excluded_back 1 arms body numbered lies a b (point_of a p.0 p.1) (point_of b q.0 q.1) e;
  }

  drawn_once : AreDrawn 0 (once body)
  drawn_once =
      let b = begins in
      let z = early node [] 0 1 body numbered placed (omega arith) (λ y i. elim i [ ]) in
      (tt, drawn_early node arms 1 (owned body) z.0)

  pub length_once : length (once body) ≡ 1 + count body
  length_once = omega (arith, length_drawn node arms (owned body), length_owned body)

  inside : (b : Spot) (f : Form Spot) → HasFormOnce body b f → node b < length (once body)
  inside b f h =
      let k = length_once in
      let e = begins in
      let z = within node (length (once body)) 1 body placed (omega arith) (omega arith) in
      go f h z
    where
      go : (f : Form Spot) → HasFormOnce body b f → All (Within node (length (once body))) (forms body) → node b < length (once body)
      go Start e z = let k = length_once in let q = begins in let w = ap node e in omega arith
      go (Same c) i z = all_at (Within node (length (once body))) (forms body) z b _ i
      go (After m c) i z = all_at (Within node (length (once body))) (forms body) z b _ i
      go (Sync c) i z = all_at (Within node (length (once body))) (forms body) z b _ i
      go (Join c e) i z = all_at (Within node (length (once body))) (forms body) z b _ i
      go (Side c) i z = all_at (Within node (length (once body))) (forms body) z b _ i
      go (Merge c e) i z = all_at (Within node (length (once body))) (forms body) z b _ i

  pub stand : IsGraphOnce body (once body) node
  stand = record { stands = record { earlier = all_early (once body) drawn_once; stands = stands }; inside = λ b p. (inside b p.0 p.1, (known b p.0 p.1).arms_are) }

  pub own_step : (b : Spot) (f : Form Spot) → IsFormed (forms body) b f → ((c : Spot) × (f ≡ Same c) × (node b ≡ node c)) ⊎ ((form_at (once body) (node b) ≡ map_form node f) × (arms_at (once body) (node b) ≡ arms b))
  own_step b f i = elim (steps_at node Mine (forms body) (steps node Mine 1 body placed owns) b f i) [ inl k ↦ inl k | inr o ↦ inr (o.form_is, o.arms_is) ]

  pub inside_of : (b : Spot) (f : Form Spot) → HasFormOnce body b f → node b < length (once body)
  inside_of b f h = inside b f h

  pub begin_node : node (begin_of body) ≡ 0
  begin_node = begins

  pub lies_once : Lies 1 arms [] body
  lies_once = lies

  pub formed_once : (b : Spot) (f : Form Spot) → IsFormed (forms body) b f → HasFormOnce body b (map_form (λ s. s) f)
  formed_once b f i = formed b f i

  pub formed_inside : (b : Spot) (f : Form Spot) → IsFormed (forms body) b f → node b < length (once body)
  formed_inside b f i = inside b (map_form (λ s. s) f) (formed b f i)
