-- The whole body: what is needed before its first act, and what is drawn after its last.
use Rattle.std.proofs.Common.{◌≡◌, ℕ, ◌<◌, ◌≤◌, ◌⊎◌, inl, inr, true, false, not, List, [], length, refl, sym, ◌∙◌, ap, subst, arith}
use Rattle.std.specs.Prelude.{◌||◌}
use Rattle.core_term.specs.Term.{Term, head}
use Rattle.core_term.specs.Numbering.{size, Numbered}
use Rattle.core_term.specs.Body.{IsBody}
use Rattle.core_term.specs.View.{term_of}
use Rattle.core_term.specs.Widths.{Widths}
use Rattle.core_term.specs.declared.term.CoreTerm.{CoreTerm}
use Rattle.sv_tree.specs.Module.{Module}
use Rattle.module_nets.specs.declared.signal.Signal.{Signal}
use Rattle.module_nets.specs.Netlist.{Extends}
use Rattle.module_nets.specs.Bits.{IsBit, Tells, told}
use Rattle.module_nets.proofs.BitsTold.{bit_later}
use Rattle.module_nets.specs.Signals.{PlacesStand}
use Rattle.module_nets.proofs.Growing.{of_later, extends_on}
use Rattle.module_nets.proofs.Expressions.{places_later}
use Rattle.pulse_nets.specs.declared.forms.Pulse.{Pulse}
use Rattle.pulse_nets.specs.Pulses.{begins, pulse_at}
use Rattle.event_points.specs.Nodes.{once}
use Rattle.event_points.proofs.Once.{stand}
use Rattle.event_graph.specs.Forms.{form_at, apart_at}
use Rattle.turn_pulses.specs.TurnGraph.{IsTurnGraph}
use Rattle.turn_machine.proofs.OneTurn.{graph_of_turn}
use Rattle.act_deeds.specs.declared.deed.Deed.TheVariants.{Decides}
use Rattle.act_deeds.specs.Deeds.{deed_at, deed_or}
use Rattle.machine_parts.specs.declared.plan.NodePlan.{NodePlan}
use Rattle.machine_parts.specs.declared.plan.TurnPlan.{TurnPlan}
use Rattle.machine_parts.specs.declared.thread.ThreadNets.{ThreadNets}
use Rattle.machine_parts.specs.Parts.{bit_at, zero_bit, plan_at}
use Rattle.machine_parts.specs.Plans.{IsTurnPlan, graph_of, node_of}
use Rattle.machine_parts.specs.Nodes.{AreBits, AreNodes, AreStatesDrawn, PulsesSoFar, TailsDrawn, WaitBelow}
use Rattle.machine_parts.specs.Threads.{ThreadDrawn}
use Rattle.turn_nets.proofs.BitLists.{bits_later, no_bits}
use Rattle.turn_nets.proofs.OneNode.{states_later}
use Rattle.turn_nets.proofs.TailNodes.{tails_later, tail_is_bit}
use Rattle.turn_nets.proofs.FirstNodes.{no_pulses_so_far}
use Rattle.thread_nets.specs.declared.setting.Walk.{Walk}
use Rattle.thread_nets.specs.declared.setting.Drawn.{Drawn}
use Rattle.thread_nets.specs.Fits.{acts_fit}
use Rattle.thread_nets.specs.Walk.{begins_in, kept_ports, kept_registers, kept_sides, nodes_in, plan_in, states_in, widths_at, wires_in}
use Rattle.thread_nets.specs.Walk.{BodyDrawn, Ground, IsPlaced, ScopeShown, SoFar, Step, TermDrawn, TermPlan}
use Rattle.thread_nets.proofs.Lists.{continues_self}
use Rattle.thread_nets.proofs.Later.{site_later}
use Rattle.thread_nets.proofs.Acts.{tails_there}

-- The plan of a body.

opposed : true ≡ false → ⊥
opposed same = cc

module _ (body : Term) (plan : TurnPlan) (is : IsTurnPlan body plan) where
  -- the end of a turn is a node of the tail
  module _ (turns : IsTurnGraph (graph_of body)) where
    last_inside : plan.last < length plan.nodes.items
    last_inside = by_case (less plan.last (length plan.nodes.items))
      where
        less : (k m : ℕ) → (k < m) ⊎ (m ≤ k)
        less k m = grind arith

        by_case : (plan.last < length plan.nodes.items) ⊎ (length plan.nodes.items ≤ plan.last) → plan.last < length plan.nodes.items
        by_case (inl inside) = inside
        by_case (inr past) =
            let live : (graph_of body).live plan.last ≡ true = subst (λ node. (graph_of body).live node ≡ true) (sym is.last) turns.last_live in
            let dead : (graph_of body).live plan.last ≡ false = is.dead plan.last past in
            absurd (opposed (sym live ∙ dead))

    pub last_there : (plan.last < length plan.nodes.items) × ((plan_at plan.nodes.items plan.last).tail ≡ true)
    last_there = (last_inside, is.tails plan.last last_inside ∙ subst (λ node. (graph_of body).tail node ≡ true) (sym is.last) turns.last_tail)

  pub placed_from : (kept : List Signal) → AreNodes plan.nodes.items → ((place : ℕ) → (deed_at plan.deeds.items place ≡ Decides → ⊥) → bit_at kept place ≡ zero_bit) → IsPlaced plan kept
  placed_from kept nodes no_side = record {
    few = is.few;
    nodes = nodes;
    begins_inside = λ place inside.
        let within : place < size body = let c = is.begin_count in omega (arith, c, inside) in
        subst (λ node. node < length plan.nodes.items) (sym (is.begins place within)) (is.begins_inside place within);
    in_order = λ node place first inside waits.
        let order = is.in_order node place first inside waits in (
          let c = is.begin_count in let o = order.0 in omega (arith, c, o),
          λ before earlier. subst (λ begin. begin < node) (sym (is.begins before (let o = order.0 in omega (arith, o, earlier)))) (order.1 before earlier),
        );
    no_side = no_side;
  }

pub turn_graph_of : (widths : Widths) (body : CoreTerm) → IsBody body → IsTurnGraph (graph_of (term_of widths body))
turn_graph_of widths body is =
    let t = term_of widths body in
    graph_of_turn t (record { numbered = is.numbered widths; tail = is.tail widths; cycles = is.cycles widths }) (form_at (once t)) (apart_at (once t)) (node_of t) (stand t (is.numbered widths)).stands

-- What stands once it is drawn whether a turn begins.

pub tails_of : (old : Module) (walk : Walk) (nodes : List NodePlan) (states : List Signal) (tails : List Pulse) → nodes ≡ nodes_in walk → states ≡ states_in walk → TailsDrawn old nodes states (wires_in walk) tails → TailsDrawn old (nodes_in walk) (states_in walk) (wires_in walk) tails
tails_of old walk nodes states tails nodes_are states_are drawn =
    tails_there old nodes (nodes_in walk) states (states_in walk) (wires_in walk) tails (sym nodes_are) (sym states_are) drawn

pub ground_from : (old mid new : Module) (walk : Walk) (nodes : List NodePlan) (states : List Signal) (tails : List Pulse) → nodes ≡ nodes_in walk → states ≡ states_in walk → Extends old mid → Extends mid new → walk.tails.now ≡ tails
    → IsPlaced (plan_in walk) (kept_sides walk) → PlacesStand old (kept_registers walk) (kept_ports walk) [] → AreStatesDrawn old (nodes_in walk) (states_in walk) → AreBits old (kept_sides walk) → AreBits old (wires_in walk)
    → IsBit new walk.begin → TailsDrawn mid nodes states (wires_in walk) tails → length tails ≡ length nodes → Ground new walk
ground_from old mid new walk nodes states tails nodes_are states_are first second tails_are placed places drawn kept wires begin tails_drawn count =
    let e = extends_on old mid new first second in
    record {
      placed = placed;
      places = places_later old new (kept_registers walk) (kept_ports walk) [] e places;
      states = states_later old new (nodes_in walk) (states_in walk) e drawn;
      kept = bits_later old new (kept_sides walk) e kept;
      wires = bits_later old new (wires_in walk) e wires;
      begin = begin;
      tails = subst (λ list. TailsDrawn new (nodes_in walk) (states_in walk) (wires_in walk) list) (sym tails_are)
          (tails_later mid new (nodes_in walk) (states_in walk) (wires_in walk) tails second (tails_of mid walk nodes states tails nodes_are states_are tails_drawn));
      tail_count = ap (λ list. length list) tails_are ∙ (count ∙ ap (λ list. length list) nodes_are);
    }

-- the pulse of the end of a turn
pub end_inside : (plan : TurnPlan) (nodes : List NodePlan) (tails list : List Pulse) → nodes ≡ plan.nodes.items → length tails ≡ length nodes → list ≡ tails → plan.last < length plan.nodes.items → plan.last < length list
end_inside plan nodes tails list nodes_are count same inside =
    let c = ap (λ nodes. length nodes) nodes_are in let d = ap (λ list. length list) same in omega (arith, c, d, count, inside)

pub end_is_bit : (old : Module) (plan : TurnPlan) (nodes : List NodePlan) (states wires : List Signal) (tails list : List Pulse) (end : Signal) → nodes ≡ plan.nodes.items → TailsDrawn old nodes states wires tails → list ≡ tails → end ≡ (pulse_at list plan.last).pulse
    → (plan.last < length plan.nodes.items) × ((plan_at plan.nodes.items plan.last).tail ≡ true) → IsBit old end
end_is_bit old plan nodes states wires tails list end nodes_are drawn same is last =
    subst (λ signal. IsBit old signal) (sym (is ∙ ap (λ list. (pulse_at list plan.last).pulse) same))
    (tail_is_bit old plan.nodes.items states wires tails plan.last last.0 last.1 (subst (λ nodes. TailsDrawn old nodes states wires tails) nodes_are drawn))

-- Before the first act nothing is drawn.

pub nothing_so_far : (old : Module) (walk : Walk) (drawn : Drawn) → drawn.pulses.items ≡ [] → drawn.values.items ≡ [] → drawn.decisions.items ≡ [] → drawn.sides.items ≡ [] → SoFar old walk drawn
nothing_so_far old walk drawn pulses values decisions sides =
    let none : length drawn.values.items ≡ 0 = ap (λ list. length list) values in
    record {
      pulses = subst
          (λ list. PulsesSoFar old (nodes_in walk) (states_in walk) (wires_in walk) drawn.decisions.items (begins walk.begin) walk.tails.now list)
          (sym pulses)
          (no_pulses_so_far old (nodes_in walk) (states_in walk) (wires_in walk) drawn.decisions.items (begins walk.begin) walk.tails.now);
      decision_count = ap (λ list. length list) decisions ∙ sym none;
      side_count = ap (λ list. length list) sides ∙ sym none;
      bits = subst (λ list. AreBits old list) (sym decisions) (no_bits old);
      begun = λ place inside. absurd (omega (arith, none, inside));
      sides = λ place inside. absurd (omega (arith, none, inside));
    }

pub nothing_in_scope : (old : Module) (walk : Walk) (sides : List Signal) → ScopeShown old walk sides [] []
nothing_in_scope old walk sides = record {
  stand = λ number some. absurd (omega (arith, some));
  widths = refl;
  shows = λ final on now of. refl;
}

pub body_plan : (old : Module) (walk : Walk) (drawn : Drawn) (body : Term) → Ground old walk → IsTurnPlan body (plan_in walk) → Numbered [] 0 body → acts_fit (length (kept_registers walk)) (widths_at walk []) body ≡ true
    → drawn.pulses.items ≡ [] → drawn.values.items ≡ [] → drawn.decisions.items ≡ [] → drawn.sides.items ≡ [] → TermPlan old walk drawn [] [] body
body_plan old walk drawn body ground is numbered fits pulses values decisions sides =
    let none : length drawn.values.items ≡ 0 = ap (λ list. length list) values in
    record {
      ready = record { ground = ground; so_far = nothing_so_far old walk drawn pulses values decisions sides; scope_shown = nothing_in_scope old walk drawn.sides.items };
      numbered = subst (λ low. Numbered [] low body) (sym none) numbered;
      room = let c = is.begin_count in omega (arith, c, none);
      fits = fits;
      deeds = λ scope part stands. ap deed_or (is.deeds.at scope part stands);
    }

-- After the last act the pulses that are left wait for decisions that are all there.

pub all_wait : (walk : Walk) (count decided : ℕ) → IsPlaced (plan_in walk) (kept_sides walk) → length (begins_in walk) ≤ decided → WaitBelow (nodes_in walk) count decided
all_wait walk count decided placed enough node place first below there is = let o = (placed.in_order node place first there is).0 in omega arith

module _ (old mid : Module) (walk : Walk) (before begun : Drawn) (body : Term) (value : Signal) (empty : before.values.items ≡ []) (drawn : TermDrawn old mid walk before begun [] body value) where
  values_there : length begun.values.items ≡ size body
  values_there = let c = drawn.count in let n = ap (λ list. length list) empty in omega (arith, c, n)

  pub decisions_there : length (begins_in walk) ≡ size body → length (begins_in walk) ≤ length begun.decisions.items
  decisions_there whole = let v = values_there in let c = drawn.step.so_far.decision_count in omega (arith, v, c, whole)

  pub body_drawn : (new : Module) (after : Drawn) (count : ℕ) → Step mid new walk begun after → count ≡ length (nodes_in walk) → count ≤ length after.pulses.items → after.values.items ≡ begun.values.items → BodyDrawn old new walk after body
  body_drawn new after count step all reaches same = record {
    extends = extends_on old mid new drawn.step.extends step.extends;
    so_far = step.so_far;
    pulse_count = let i = step.so_far.pulses.inside in omega (arith, i, reaches, all);
    count = ap (λ list. length list) same ∙ values_there;
    sites = λ scope part stands. site_later mid new walk begun after step.extends step.grown scope (head part) drawn.step.so_far.decision_count (drawn.sites scope part stands);
  }

-- The nets of the thread.

pub thread_drawn : (old new : Module) (walk : Walk) (after : Drawn) (body : Term) (end : Signal) (nets : ThreadNets) → BodyDrawn old new walk after body → IsBit old walk.begin
    → Tells old walk.begin (λ now. not (told now walk.setting.states.now.started) || told now end) → end ≡ (pulse_at walk.tails.now (plan_in walk).last).pulse
    → ((plan_in walk).last < length (nodes_in walk)) × ((plan_at (nodes_in walk) (plan_in walk).last).tail ≡ true)
    → nets ≡ record { begin = walk.begin; pulses = after.pulses; values = after.values; decisions = after.decisions; sides = after.sides }
    → ThreadDrawn new (kept_registers walk) (kept_ports walk) (wires_in walk) body (plan_in walk) walk.setting.states.now nets
thread_drawn old new walk after body end nets drawn begin tells end_is last is =
    let made : ThreadNets = record { begin = walk.begin; pulses = after.pulses; values = after.values; decisions = after.decisions; sides = after.sides } in
    let inside : (place : ℕ) → place < size body → place < length after.values.items = λ place within. let c = drawn.count in omega (arith, c, within) in
    let node_inside : (node : ℕ) → node < length (nodes_in walk) → node < length after.pulses.items = λ node within. let c = drawn.pulse_count in omega (arith, c, within) in
    subst (λ nets. ThreadDrawn new (kept_registers walk) (kept_ports walk) (wires_in walk) body (plan_in walk) walk.setting.states.now nets) (sym is) record {
      begin = bit_later old new walk.begin drawn.extends begin;
      begins = λ now of.
          tells now (of_later old new now drawn.extends of)
          ∙ ap (λ (signal : Signal). not (told now walk.setting.states.now.started) || told now signal) (end_is ∙ ap (λ (pulse : Pulse). pulse.pulse) (sym (drawn.so_far.pulses.same (plan_in walk).last (node_inside (plan_in walk).last last.0) last.1)));
      pulse_count = drawn.pulse_count;
      pulses = λ node within. drawn.so_far.pulses.drawn node (node_inside node within);
      value_count = drawn.count;
      decision_count = drawn.so_far.decision_count ∙ drawn.count;
      side_count = drawn.so_far.side_count ∙ drawn.count;
      sides = λ place within. drawn.so_far.sides place (inside place within);
      values = λ scope term used stands uses. (drawn.sites scope term stands).value used uses after.sides.items (continues_self after.sides.items);
      decisions = λ scope term condition stands asks. (drawn.sites scope term stands).decision condition asks;
      undecided = λ scope term stands none. (drawn.sites scope term stands).undecided none;
      decision_bits = λ place within. drawn.so_far.bits place;
    }
