-- What was read of a body, node by node and site by site, is a plan of its turn.
--
-- The nodes of the graph of one turn tell all of it: which are live, which are of the tail, and which end acts on ports or
-- begin sides (`turn_nodes`).
use Rattle.std.proofs.Common.{◌≡◌, ℕ, ◌<◌, ◌≤◌, ◌⊎◌, inl, inr, arith, refl, sym, ◌∙◌, ap, subst, true, false, Bool, List, [], ◌∷◌, ◌++◌, length, slice_get, Option, Some, None}
use Rattle.order_rules.specs.Form as form
use Rattle.order_rules.specs.Form.{Form}
use Rattle.order_rules.specs.Entry.{IsEarlier}
use Rattle.core_term.specs.Term.{Term, Act, Cycle, Set, Send, Recv, If, When, Block, Wait, Pure, Nothing, site, head}
use Rattle.core_term.specs.Numbering.{size}
use Rattle.core_term.specs.Acts.{OnPort}
use Rattle.core_term.specs.Points.{TermBegin, Begin, End, NoSide}
use Rattle.core_term.specs.Stands.{Stands}
use Rattle.act_deeds.specs.declared.deed.Deed.{Deed}
use Rattle.act_deeds.specs.Deeds.{AreDeeds}
use Rattle.event_graph.specs.declared.node.Arm.{Arm}
use Rattle.event_graph.specs.declared.node.Kind.{Kind}
use Rattle.event_graph.specs.declared.node.Kind.TheVariants as kind
use Rattle.event_graph.specs.Event as seen
use Rattle.event_graph.specs.Forms as forms
use Rattle.event_graph.specs.Forms.{form_at}
use Rattle.event_points.specs.Owned.{begin_of, end_of}
use Rattle.event_points.specs.Placed.{arm}
use Rattle.event_points.specs.Nodes.{once}
use Rattle.event_points.proofs.Once.{stand, formed_inside}
use Rattle.event_points.proofs.Room.{small}
use Rattle.turn_machine.specs.OneTurn.{IsTurnBody}
use Rattle.turn_machine.specs.Reached.{IsReached, at_last, by_same, by_join, by_other_join, by_merge, by_other_merge}
use Rattle.turn_machine.proofs.Formed.{begin_formed}
use Rattle.turn_nodes.specs.Laws.{SideDrawn, SidesDrawn, node_of, graph_of}
use Rattle.turn_nodes.proofs.Drawn.{live, dead}
use Rattle.turn_nodes.proofs.Reached.{of_tail, to_tail}
use Rattle.turn_nodes.proofs.PortEnds.{port_end, port_waits, ends_apart}
use Rattle.turn_nodes.proofs.Sides.{all_sides, side_node}
use Rattle.pulse_nets.specs.declared.node.Shape.{Shape}
use Rattle.pulse_nets.specs.Pulses.{form_of}
use Rattle.machine_parts.specs.declared.plan.Event.{Event}
use Rattle.machine_parts.specs.declared.plan.Event.TheVariants as event
use Rattle.machine_parts.specs.declared.plan.NodePlan.{NodePlan}
use Rattle.machine_parts.specs.declared.plan.TurnPlan.{TurnPlan}
use Rattle.machine_parts.specs.Parts.{plan_at, node_at}
use Rattle.machine_parts.specs.Plans.{IsTurnPlan, SidesWait}
use Rattle.turn_plans.specs.Read.{AreShapes, AreSides, AreEarlier, AreTails, AreNodesOf, AreBegins, AreEnds, shape_at, tail_at, event_at, decision_of, event_by, side_in}
use Rattle.turn_plans.specs.Wires.{IsOn, EndsAreApart, EndsAt, AreMarked}
use Rattle.turn_plans.proofs.PortDeeds.{is_on, act_on}

-- a node of the form Side waits for what its last arm decides
side_read : (node : Option seen.Event) (c : ℕ) → forms.form_in node ≡ form.Side c → side_in node ≡ decision_of (forms.arms_in node)
side_read None c is = absurd cc
side_read (Some node) c is = by_kind node.kind refl is
  where
    by_kind : (k : Kind) → node.kind ≡ k → forms.form_of k node.preds ≡ form.Side c → event_by k node.arms ≡ decision_of node.arms
    by_kind kind.Start same is = absurd cc
    by_kind kind.Same same is = absurd cc
    by_kind (kind.After n) same is = absurd cc
    by_kind kind.Sync same is = absurd cc
    by_kind kind.Join same is = absurd cc
    by_kind kind.Side same is = refl
    by_kind kind.Merge same is = absurd cc

-- and only such a node waits for a decision
record IsDecided (node : Option seen.Event) : Type 0 where
  from : ℕ
  form_is : forms.form_in node ≡ form.Side from

decided : (node : Option seen.Event) (place : ℕ) (first : Bool) → side_in node ≡ event.Side place first → IsDecided node
decided None place first told = absurd cc
decided (Some node) place first told = by_kind node.kind refl told
  where
    by_kind : (k : Kind) → node.kind ≡ k → event_by k node.arms ≡ event.Side place first → IsDecided (Some node)
    by_kind kind.Start same told = absurd cc
    by_kind kind.Same same told = absurd cc
    by_kind (kind.After n) same told = absurd cc
    by_kind kind.Sync same told = absurd cc
    by_kind kind.Join same told = absurd cc
    by_kind kind.Side same told = record { from = forms.first_pred node.preds; form_is = ap (λ k. forms.form_of k node.preds) same }
    by_kind kind.Merge same told = absurd cc

-- an arm after others decides
decides : (these : List Arm) (place : ℕ) (first : Bool) → decision_of (these ++ arm 1 place first ∷ []) ≡ event.Side place first
decides [] place first = refl
decides (x ∷ []) place first = refl
decides (x ∷ y ∷ rest) place first = decides (y ∷ rest) place first

reached_map : (one other : ℕ → Form ℕ) (last : ℕ) → ((n : ℕ) → one n ≡ other n) → {n : ℕ} → IsReached one last n → IsReached other last n
reached_map one other last same at_last = at_last
reached_map one other last same (by_same {node = node} is reached) = by_same (sym (same node) ∙ is) (reached_map one other last same reached)
reached_map one other last same (by_join {node = node} is reached) = by_join (sym (same node) ∙ is) (reached_map one other last same reached)
reached_map one other last same (by_other_join {node = node} is reached) = by_other_join (sym (same node) ∙ is) (reached_map one other last same reached)
reached_map one other last same (by_merge {node = node} is reached) = by_merge (sym (same node) ∙ is) (reached_map one other last same reached)
reached_map one other last same (by_other_merge {node = node} is reached) = by_other_merge (sym (same node) ∙ is) (reached_map one other last same reached)

same_bits : (one other : Bool) → (one ≡ true → other ≡ true) → (other ≡ true → one ≡ true) → one ≡ other
same_bits true true there back = refl
same_bits false false there back = refl
same_bits true false there back = sym (there refl)
same_bits false true there back = back refl

module _ (body : Term) (body_is : IsTurnBody body) where
  pub shapes_earlier : (shapes : List Shape) → AreShapes (once body) shapes → AreEarlier shapes
  shapes_earlier shapes are = λ n. subst (IsEarlier n) (sym (are.forms n)) ((stand body body_is.numbered).stands.earlier n)

  tail_told : (shapes : List Shape) → AreShapes (once body) shapes → (last : ℕ) → last ≡ node_of body (end_of body) → (tails : List Bool) → AreTails shapes last tails
      → (n : ℕ) → n < length (once body) → tail_at tails n ≡ (graph_of body).tail n
  tail_told shapes are last last_is tails tails_are n inside =
      same_bits (tail_at tails n) ((graph_of body).tail n) (λ marked. to_tail body body_is n (there ((tails_are.reached n).0 marked))) (λ tail. (tails_are.reached n).1 (back (of_tail body body_is n inside tail)))
    where
      there : IsReached (λ k. form_of (shape_at shapes k)) last n → IsReached (form_at (once body)) (node_of body (end_of body)) n
      there reached = let P : ℕ → Type 0 = λ l. IsReached (form_at (once body)) l n in subst P last_is (reached_map (λ k. form_of (shape_at shapes k)) (form_at (once body)) last are.forms reached)

      back : IsReached (form_at (once body)) (node_of body (end_of body)) n → IsReached (λ k. form_of (shape_at shapes k)) last n
      back reached = let P : ℕ → Type 0 = λ l. IsReached (λ k. form_of (shape_at shapes k)) l n in subst P (sym last_is) (reached_map (form_at (once body)) (λ k. form_of (shape_at shapes k)) (node_of body (end_of body)) (λ k. sym (are.forms k)) reached)

  module _ (deeds : List Deed) (deeds_are : AreDeeds body deeds) (ends : List ℕ) (ends_are : AreEnds body ends) where
    end_node : (place port : ℕ) → IsOn deeds place port → node_at ends place ≡ node_of body (End place)
    end_node place port on = ends_are.at place (let inside = on.inside in let counted = deeds_are.count in omega arith)

    end_waits : (place port : ℕ) → IsOn deeds place port → (node_of body (End place) < length (once body)) × (form_at (once body) (node_of body (End place)) ≡ form.Sync (node_of body (Begin place)))
    end_waits place port on = port_waits body body_is.numbered place port (act_on body deeds deeds_are body_is.numbered place port on)

    pub ends_are_apart : (nodes : ℕ) → nodes ≡ length (once body) → EndsAreApart deeds ends nodes
    ends_are_apart nodes all = record {
      count = ends_are.count ∙ sym deeds_are.count;
      inside = λ place port on. let at = end_node place port on in let inside = (end_waits place port on).0 in omega arith;
      apart = λ place other port another on also same.
          ends_apart body body_is.numbered place other (port_end body body_is.numbered place port (act_on body deeds deeds_are body_is.numbered place port on)) (port_end body body_is.numbered other another (act_on body deeds deeds_are body_is.numbered other another also)) (sym (end_node place port on) ∙ (same ∙ end_node other another also));
    }

    module _ (old new : List Event) (sides_are : AreSides (once body) old) (marked : AreMarked deeds ends old new) where
      pub wire_told : (scope : List Act) (term : Term) (port : ℕ) → Stands [] body scope term → OnPort (head term) port
          → (node_of body (End (site (head term))) < length (once body)) × (event_at new (node_of body (End (site (head term)))) ≡ event.Wire port)
      wire_told scope term port stands on =
          let here = is_on body deeds deeds_are scope term port stands on in
          ((end_waits (site (head term)) port here).0, ap (event_at new) (sym (end_node (site (head term)) port here)) ∙ marked.wires (site (head term)) port here)

      -- what a node of the form Side waits for is not written over
      side_kept : (n c : ℕ) → form_at (once body) n ≡ form.Side c → event_at new n ≡ event_at old n
      side_kept n c is = by_writer (marked.others n)
        where
          by_writer : (event_at new n ≡ event_at old n) ⊎ EndsAt deeds ends n (event_at new n) → event_at new n ≡ event_at old n
          by_writer (inl same) = same
          by_writer (inr written) =
              let here : node_of body (End written.site) ≡ n = sym (end_node written.site written.port written.on) ∙ written.at in
              let both : form.Side c ≡ form.Sync (node_of body (Begin written.site)) = sym is ∙ (ap (form_at (once body)) (sym here) ∙ (end_waits written.site written.port written.on).1) in
              absurd cc

      side_told : (place : ℕ) (first : Bool) (n : ℕ) → SideDrawn body place first n → event_at new n ≡ event.Side place first
      side_told place first n drawn =
          side_kept n (node_of body (Begin place)) drawn.form_is
          ∙ (sides_are.sides n ∙ (side_read (slice_get (once body) n) (node_of body (Begin place)) drawn.form_is ∙ (ap decision_of drawn.arms_are ∙ decides drawn.these place first)))

      by_drawn : (n place other : ℕ) (first taken : Bool) → event_at new n ≡ event.Side place first → SideDrawn body other taken n → (place < size body) × ((before : ℕ) → before ≤ place → node_of body (Begin before) < n)
      by_drawn n place other first taken waits drawn =
          let both : event.Side other taken ≡ event.Side place first = sym (side_told other taken n drawn) ∙ waits in
          let same : other ≡ place = cc in
          ((let inside = drawn.is_site in omega arith), λ before upto. drawn.later before (omega arith))

      pub order_told : (n place : ℕ) (first : Bool) → event_at new n ≡ event.Side place first → (place < size body) × ((before : ℕ) → before ≤ place → node_of body (Begin before) < n)
      order_told n place first waits = by_writer (marked.others n)
        where
          by_writer : (event_at new n ≡ event_at old n) ⊎ EndsAt deeds ends n (event_at new n) → (place < size body) × ((before : ℕ) → before ≤ place → node_of body (Begin before) < n)
          by_writer (inl same) =
              let by = decided (slice_get (once body) n) place first (sym (sides_are.sides n) ∙ (sym same ∙ waits)) in
              let begun = side_node body body_is.numbered n by.from by.form_is in
              by_drawn n place begun.place first begun.first waits begun.drawn
          by_writer (inr written) = let wire : event_at new n ≡ event.Wire written.port = written.wire in absurd cc

      pub sides_wait : (plan : TurnPlan) → ((n : ℕ) → n < length (once body) → (plan_at plan.nodes.items n).event ≡ event_at new n) → (act : Act) → SidesDrawn body act → SidesWait plan body act
      sides_wait plan reads (If p e t u w) drawn =
          (reads (node_of body (begin_of t)) drawn.0.inside ∙ side_told p true (node_of body (begin_of t)) drawn.0, reads (node_of body (begin_of u)) drawn.1.inside ∙ side_told p false (node_of body (begin_of u)) drawn.1)
      sides_wait plan reads (When p e t) drawn =
          (reads (node_of body (begin_of t)) drawn.0.inside ∙ side_told p true (node_of body (begin_of t)) drawn.0, reads (node_of body (NoSide p)) drawn.1.inside ∙ side_told p false (node_of body (NoSide p)) drawn.1)
      sides_wait plan reads (Cycle p c) drawn = tt
      sides_wait plan reads (Set p r e) drawn = tt
      sides_wait plan reads (Send p m e) drawn = tt
      sides_wait plan reads (Recv p m) drawn = tt
      sides_wait plan reads (Block p t) drawn = tt
      sides_wait plan reads (Wait p y) drawn = tt
      sides_wait plan reads (Pure p e) drawn = tt
      sides_wait plan reads (Nothing p) drawn = tt

-- all together
pub planned : (body : Term) → IsTurnBody body → size body ≤ 512 → (plan : TurnPlan) → AreDeeds body plan.deeds.items → AreBegins body plan.begins.items → AreEnds body plan.ends.items → plan.last ≡ node_of body (end_of body)
    → (shapes : List Shape) → AreShapes (once body) shapes → (tails : List Bool) → AreTails shapes plan.last tails
    → (old new : List Event) → AreSides (once body) old → AreMarked plan.deeds.items plan.ends.items old new → AreNodesOf shapes tails new plan.nodes.items → IsTurnPlan body plan
planned body body_is few plan deeds_are begins_are ends_are last_is shapes shapes_are tails tails_are old new sides_are marked nodes_are = record {
  count = counted;
  few = let room = (small body).0 in omega arith;
  forms = λ n inside. ap (λ (node : NodePlan). form_of node.shape) (at n inside) ∙ shapes_are.forms n;
  live = λ n inside. live body body_is.numbered n (omega arith);
  dead = λ n past. dead body body_is.numbered n (omega arith);
  tails = λ n inside. ap (λ (node : NodePlan). node.tail) (at n inside) ∙ tail_told body body_is shapes shapes_are plan.last last_is tails tails_are n (omega arith);
  begin_count = begins_are.count;
  end_count = ends_are.count;
  begins = begins_are.at;
  ends = ends_are.at;
  begins_inside = λ place within. let inside = formed_inside body body_is.numbered (Begin place) (form.Same (TermBegin place)) (begin_formed body body_is.numbered place within) in omega arith;
  last = last_is;
  deeds = deeds_are;
  few_acts = few;
  wires = λ scope term port stands on.
      let wire = wire_told body body_is plan.deeds.items deeds_are plan.ends.items ends_are old new sides_are marked scope term port stands on in
      reads (node_of body (End (site (head term)))) wire.0 ∙ wire.1;
  sides = λ scope term stands. sides_wait body body_is plan.deeds.items deeds_are plan.ends.items ends_are old new sides_are marked plan reads (head term) (all_sides body body_is.numbered scope term stands);
  in_order = λ n place first inside waits. order_told body body_is plan.deeds.items deeds_are plan.ends.items ends_are old new sides_are marked n place first (sym (reads n (omega arith)) ∙ waits);
}
  where
    counted : length plan.nodes.items ≡ length (once body)
    counted = nodes_are.count ∙ shapes_are.count

    at : (n : ℕ) → n < length plan.nodes.items → plan_at plan.nodes.items n ≡ record { shape = shape_at shapes n; tail = tail_at tails n; event = event_at new n }
    at n inside = nodes_are.at n (let same = nodes_are.count in omega arith)

    reads : (n : ℕ) → n < length (once body) → (plan_at plan.nodes.items n).event ≡ event_at new n
    reads n inside = ap (λ (node : NodePlan). node.event) (at n (let same = counted in omega arith))
