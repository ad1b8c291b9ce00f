-- One node more: the pulses so far stay as they are, since each node reads earlier ones alone, and they wait for decisions that are
-- made alone.
use Rattle.std.proofs.Common.{◌≡◌, ℕ, ◌+◌, ◌<◌, ◌≤◌, ◌⊎◌, inl, inr, Bool, true, false, not, List, [], ◌∷◌, ◌++◌, length, refl, sym, ◌∙◌, ap, subst, arith}
use Rattle.std.proofs.lemmas.Bool.{cases_lt}
use Rattle.std.proofs.lemmas.List.{get_or_append_left, length-append}
use Rattle.sv_tree.specs.Module.{Module}
use Rattle.module_nets.specs.declared.signal.Signal.{Signal}
use Rattle.module_nets.specs.Netlist.{Extends}
use Rattle.module_nets.specs.Shown.{Moment}
use Rattle.module_nets.specs.Bits.{told}
use Rattle.module_nets.proofs.Growing.{extends_self}
use Rattle.pulse_nets.specs.declared.forms.Pulse.{Pulse}
use Rattle.pulse_nets.specs.Pulses.{pulse_at, IsDrawn, ArePredecessorsDrawn}
use Rattle.machine_parts.specs.declared.plan.Event.{Event}
use Rattle.machine_parts.specs.declared.plan.Event.TheVariants.{Nothing, Wire, Side}
use Rattle.machine_parts.specs.declared.plan.NodePlan.{NodePlan}
use Rattle.machine_parts.specs.Parts.{bit_at, zero_bit, plan_at, form_in, event_told}
use Rattle.machine_parts.specs.Nodes.{AreNodes, PulsesSoFar, TailsDrawn, WaitBelow}
use Rattle.turn_nets.specs.Planned.{NodeDrawn}
use Rattle.turn_nets.proofs.OneNode.{EachFrom, each_weaker, each_earlier, each_tail, each_drawn, EarlierTail, node_later, node_event, as_node, as_pulse, drawn_later}
use Rattle.turn_nets.proofs.TailNodes.{kept_pushed, last_pushed}

pub so_far_later : (old new : Module) (nodes : List NodePlan) (states wires decisions : List Signal) (begin : Moment → Bool) (tails pulses : List Pulse) → Extends old new
    → PulsesSoFar old nodes states wires decisions begin tails pulses → PulsesSoFar new nodes states wires decisions begin tails pulses
so_far_later old new nodes states wires decisions begin tails pulses e so_far = record {
  inside = so_far.inside;
  drawn = λ node within. drawn_later old new nodes states wires decisions begin pulses node e (so_far.drawn node within);
  same = so_far.same;
  known = so_far.known;
}

pub no_pulses_so_far : (old : Module) (nodes : List NodePlan) (states wires decisions : List Signal) (begin : Moment → Bool) (tails : List Pulse)
    → PulsesSoFar old nodes states wires decisions begin tails []
no_pulses_so_far old nodes states wires decisions begin tails = record {
  inside = omega arith;
  drawn = λ node within. absurd (omega (arith, within));
  same = λ node within. absurd (omega (arith, within));
  known = λ node place first below. absurd (omega (arith, below));
}

-- further decisions change nothing where they are not waited for

event_decided : (now : Moment) (wires decisions more : List Signal) (event : Event) → ((place : ℕ) (first : Bool) → event ≡ Side place first → place < length decisions)
    → event_told now wires decisions event ≡ event_told now wires (decisions ++ more) event
event_decided now wires decisions more Nothing waits = refl
event_decided now wires decisions more (Wire port) waits = refl
event_decided now wires decisions more (Side place true) waits =
    ap (λ signal. told now signal) (sym (get_or_append_left decisions more zero_bit place (waits place true refl)))
event_decided now wires decisions more (Side place false) waits =
    ap (λ signal. not (told now signal)) (sym (get_or_append_left decisions more zero_bit place (waits place false refl)))

pub so_far_decided : (old : Module) (nodes : List NodePlan) (states wires decisions : List Signal) (begin : Moment → Bool) (tails pulses : List Pulse) (more : List Signal)
    → PulsesSoFar old nodes states wires decisions begin tails pulses → PulsesSoFar old nodes states wires (decisions ++ more) begin tails pulses
so_far_decided old nodes states wires decisions begin tails pulses more so_far = record {
  inside = so_far.inside;
  drawn = λ node within.
      let inside = so_far.inside in
      as_pulse old nodes states wires (decisions ++ more) begin pulses node
      (node_event (plan_at nodes node) (bit_at states node) (λ now. event_told now wires decisions (plan_at nodes node).event) begin (pulse_at pulses node) old
      (λ now. event_told now wires (decisions ++ more) (plan_at nodes node).event) pulses
      (λ now of. event_decided now wires decisions more (plan_at nodes node).event
      (λ place first is. so_far.known node place first within (omega (arith, within, inside)) is))
      (as_node old nodes states wires decisions begin pulses node (so_far.drawn node within)));
  same = so_far.same;
  known = λ node place first below within is.
      let long = length-append decisions more in
      let before = so_far.known node place first below within is in
      omega (arith, long, before);
}

module _ (nodes : List NodePlan) (are : AreNodes nodes) (states wires decisions : List Signal) (begin : Moment → Bool) (tails : List Pulse) where
  pub nodes_from : (old : Module) (pulses : List Pulse) → length pulses < length nodes → PulsesSoFar old nodes states wires decisions begin tails pulses
      → ArePredecessorsDrawn old pulses (form_in nodes (length pulses))
  nodes_from old pulses within so_far =
      each_drawn old pulses (form_in nodes (length pulses))
      (each_weaker (λ from. from < length pulses) (IsDrawn old pulses) (form_in nodes (length pulses))
      (λ from less. (less, (so_far.drawn from less).pulse))
      (each_earlier (length pulses) (form_in nodes (length pulses)) (are.earlier (length pulses) within)))

  -- the pulse of a node of the tail is the one that was drawn before
  pub tail_there : (old : Module) (pulses : List Pulse) → length pulses < length nodes → PulsesSoFar old nodes states wires decisions begin tails pulses
      → TailsDrawn old nodes states wires tails → (plan_at nodes (length pulses)).tail ≡ true
      → NodeDrawn old (plan_at nodes (length pulses)) (bit_at states (length pulses)) (λ now. event_told now wires decisions (plan_at nodes (length pulses)).event) begin pulses
      (pulse_at tails (length pulses))
  tail_there old pulses within so_far drawn tail =
      let node = length pulses in
      node_later (plan_at nodes node) (bit_at states node) (λ now. event_told now wires decisions (plan_at nodes node).event) begin (pulse_at tails node) old old tails pulses (extends_self old)
      (each_weaker (EarlierTail nodes node) (λ from. pulse_at tails from ≡ pulse_at pulses from) (form_in nodes node)
      (λ from earlier. sym (so_far.same from earlier.0 earlier.1))
      (each_tail nodes node (form_in nodes node) (are.earlier node within) (are.tails node within tail)))
      (as_node old nodes states wires decisions begin tails node (drawn begin decisions node within tail))

  abbrev Mine : (new : Module) (node : ℕ) → (before : List Pulse) → Pulse → Type 0
  Mine new node before pulse = NodeDrawn new (plan_at nodes node) (bit_at states node) (λ now. event_told now wires decisions (plan_at nodes node).event) begin before pulse

  pub so_far_pushed : (old new : Module) (pulses : List Pulse) (drawn : Pulse) → Extends old new → length pulses < length nodes → WaitBelow nodes (length pulses + 1) (length decisions)
      → PulsesSoFar old nodes states wires decisions begin tails pulses
      → NodeDrawn new (plan_at nodes (length pulses)) (bit_at states (length pulses)) (λ now. event_told now wires decisions (plan_at nodes (length pulses)).event) begin pulses drawn
      → ((plan_at nodes (length pulses)).tail ≡ true → drawn ≡ pulse_at tails (length pulses)) → PulsesSoFar new nodes states wires decisions begin tails (pulses ++ drawn ∷ [])
  so_far_pushed old new pulses drawn e room waits so_far here is_tail = record {
    inside = omega (arith, long, room);
    drawn = λ node within. as_pulse new nodes states wires decisions begin (pulses ++ drawn ∷ []) node (at node (inside node within) (cases_lt node (length pulses)));
    same = λ node within tail. same_at node (inside node within) tail (cases_lt node (length pulses));
    known = λ node place first below. waits node place first (omega (arith, long, below));
  }
    where
      long : length (pulses ++ drawn ∷ []) ≡ length pulses + 1
      long = length-append pulses (drawn ∷ [])

      inside : (node : ℕ) → node < length (pulses ++ drawn ∷ []) → node ≤ length pulses
      inside node within = omega (arith, long, within)

      same : (node : ℕ) → node ≤ length pulses → EachFrom (λ from. pulse_at pulses from ≡ pulse_at (pulses ++ drawn ∷ []) from) (form_in nodes node)
      same node inside =
          each_weaker (λ from. from < node) (λ from. pulse_at pulses from ≡ pulse_at (pulses ++ drawn ∷ []) from) (form_in nodes node)
          (λ from less. kept_pushed pulses drawn from (omega (arith, less, inside)))
          (each_earlier node (form_in nodes node) (are.earlier node (omega (arith, inside, room))))

      at : (node : ℕ) → node ≤ length pulses → (node < length pulses) ⊎ (length pulses ≤ node) → Mine new node (pulses ++ drawn ∷ []) (pulse_at (pulses ++ drawn ∷ []) node)
      at node inside (inl less) =
          subst (λ pulse. Mine new node (pulses ++ drawn ∷ []) pulse) (kept_pushed pulses drawn node less)
          (node_later (plan_at nodes node) (bit_at states node) (λ now. event_told now wires decisions (plan_at nodes node).event) begin (pulse_at pulses node) old new pulses (pulses ++ drawn ∷ []) e
          (same node inside) (as_node old nodes states wires decisions begin pulses node (so_far.drawn node less)))
      at node inside (inr past) =
          let is : length pulses ≡ node = omega (arith, past, inside) in
          let mine : Mine new node pulses drawn = subst (λ node. Mine new node pulses drawn) is here in
          subst (λ pulse. Mine new node (pulses ++ drawn ∷ []) pulse) (sym (last_pushed pulses drawn node is))
          (node_later (plan_at nodes node) (bit_at states node) (λ now. event_told now wires decisions (plan_at nodes node).event) begin drawn new new pulses (pulses ++ drawn ∷ []) (extends_self new)
          (same node inside) mine)

      same_at : (node : ℕ) → node ≤ length pulses → (plan_at nodes node).tail ≡ true → (node < length pulses) ⊎ (length pulses ≤ node) → pulse_at (pulses ++ drawn ∷ []) node ≡ pulse_at tails node
      same_at node inside tail (inl less) = sym (kept_pushed pulses drawn node less) ∙ so_far.same node less tail
      same_at node inside tail (inr past) =
          let is : length pulses ≡ node = omega (arith, past, inside) in
          last_pushed pulses drawn node is ∙ subst (λ node. (plan_at nodes node).tail ≡ true → drawn ≡ pulse_at tails node) is is_tail tail
