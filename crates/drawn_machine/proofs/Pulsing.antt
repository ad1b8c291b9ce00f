-- The pulses of a drawn thread are a machine of pulses over the graph of one turn: each equation is one clause of what is drawn, read in
-- one cycle.
use Rattle.std.proofs.Common.{◌≡◌, ℕ, ◌+◌, ◌<◌, inl, inr, Bool, true, false, not, List, length, refl, sym, ◌∙◌, ap, subst}
use Rattle.std.specs.Prelude.{◌==◌, ◌&&◌, ◌||◌, if◌then◌else◌, slice_get, Some}
use Rattle.std.proofs.lemmas.Bool.{cases_lt, false≢true}
use Rattle.order_rules.specs.Form.{Form, Start, Same, After, Sync, Join, Side, Merge}
use Rattle.core_term.specs.Inputs.{Inputs}
use Rattle.core_term.specs.Process.{Thread}
use Rattle.sv_tree.specs.Module.{Module}
use Rattle.module_nets.specs.declared.signal.Signal.{Signal}
use Rattle.module_nets.specs.Shown.{IsMomentOf, shown}
use Rattle.module_nets.specs.Bits.{told, xor}
use Rattle.turn_pulses.specs.TurnGraph.{TurnGraph}
use Rattle.turn_pulses.specs.PulseMachine.{Seen, PulseMachine, IsPulseMachine, turn_begins, pulse_of, next_bit, next_counter}
use Rattle.turn_pulses.specs.PulseMachine as machine
use Rattle.pulse_nets.specs.Pulses.{pulse_at, pulse_from, Knows}
use Rattle.machine_parts.specs.declared.frame.Frame.{Frame}
use Rattle.machine_parts.specs.declared.frame.Keep.{Keep}
use Rattle.machine_parts.specs.declared.frame.Keep.TheVariants as keep
use Rattle.machine_parts.specs.declared.thread.ThreadDraft.{ThreadDraft}
use Rattle.machine_parts.specs.Parts.{bit_at, plan_at, form_in, event_told}
use Rattle.machine_parts.specs.Plans.{graph_of}
use Rattle.machine_parts.specs.Frames.{HasRegister, keeps_state}
use Rattle.machine_parts.specs.Threads.{PulseDrawn}
use Rattle.machine_parts.specs.Modules.{NodeNext}
use Rattle.drawn_machine.specs.Drawn.{IsThreadDraft}
use Rattle.drawn_machine.proofs.Moments.{at}
use Rattle.drawn_machine.proofs.Kept.{IsState, Kept}

-- of the nodes only a wait for a wire and a join have a bit, and only a delay has a counter
abbrev pub bit_in : Form ℕ → Bool → Bool
bit_in (Sync from) bit = bit
bit_in (Join first second) bit = bit
bit_in form bit = false

abbrev pub counter_in : Form ℕ → ℕ → ℕ
counter_in (After delay from) number = number
counter_in form number = 0

module _ (graph : TurnGraph) (seen : Seen) (m : PulseMachine) (cycle node : ℕ) (bit : Bool) (counter : ℕ) (event start forgets : Bool)
    (wire : seen.wire node cycle ≡ event) (chosen : seen.chosen node cycle ≡ event) (starts : turn_begins graph m cycle ≡ start) (forget : graph.forgets node ≡ forgets) where
  pulse_is : (form : Form ℕ) → m.bit cycle node ≡ bit_in form bit → m.counter cycle node ≡ counter_in form counter
      → pulse_from (m.pulse cycle) bit counter event start forgets form ≡ pulse_of graph seen m cycle node form
  pulse_is Start is count = sym starts
  pulse_is (Same from) is count = refl
  pulse_is (After delay from) is count = rw count refl
  pulse_is (Sync from) is count = rw (is, wire) refl
  pulse_is (Side from) is count = rw chosen refl
  pulse_is (Join first second) is count = rw (is, starts, forget) refl
  pulse_is (Merge first second) is count = refl

-- what comes next, by form
abbrev BitNext : PulseMachine → (cycle : ℕ) → (known event : Bool) → Form ℕ → Bool → Type 0
BitNext m cycle known event (Sync from) next = next ≡ (known && not event)
BitNext m cycle known event (Join first second) next = next ≡ xor known (xor (m.pulse cycle first) (m.pulse cycle second))
BitNext m cycle known event form next = next ≡ false

xor_same : (left right : Bool) → xor left right ≡ machine.xor left right
xor_same left right = refl

module _ (graph : TurnGraph) (seen : Seen) (m : PulseMachine) (cycle node : ℕ) (bit : Bool) (event start forgets : Bool)
    (wire : seen.wire node cycle ≡ event) (starts : turn_begins graph m cycle ≡ start) (forget : graph.forgets node ≡ forgets) where
  bit_is : (form : Form ℕ) (known next : Bool) → m.bit cycle node ≡ bit_in form bit → Knows known (m.pulse cycle) bit start forgets form
      → BitNext m cycle known event form next → next ≡ next_bit graph seen m cycle node form
  bit_is Start known next is knows comes = comes
  bit_is (Same from) known next is knows comes = comes
  bit_is (After delay from) known next is knows comes = comes
  bit_is (Sync from) known next is knows comes = rw (is, wire, ← knows) comes
  bit_is (Side from) known next is knows comes = comes
  bit_is (Join first second) known next is knows comes = rw (is, starts, forget, ← knows) comes
  bit_is (Merge first second) known next is knows comes = comes

module _ (tree : Module) (inputs : Inputs) (moments : (cycle : ℕ) → IsMomentOf tree (at tree inputs cycle)) (frame : Frame)
    (sources received wires : List Signal) (number : ℕ) (thread : Thread) (draft : ThreadDraft)
    (is : IsThreadDraft tree frame sources received wires number thread draft)
    (drafts : List ThreadDraft) (here : slice_get drafts number ≡ Some draft)
    (kept : (kept : Keep) → IsState kept → (signal : Signal) → HasRegister frame kept signal → Kept tree inputs sources wires drafts kept signal) where
  abbrev graph : TurnGraph
  graph = graph_of thread.body

  abbrev pub seen : Seen
  seen = record {
    wire = λ node cycle. event_told (at tree inputs cycle) wires draft.nets.decisions.items (plan_at draft.plan.now.nodes.items node).event;
    chosen = λ node cycle. event_told (at tree inputs cycle) wires draft.nets.decisions.items (plan_at draft.plan.now.nodes.items node).event;
  }

  abbrev state : ℕ → Signal
  state node = bit_at draft.states.now.nodes.items node

  abbrev pub pulses : PulseMachine
  pulses = record {
    pulse = λ cycle node. told (at tree inputs cycle) (pulse_at draft.nets.pulses.items node).pulse;
    bit = λ cycle node. graph.live node && bit_in (graph.form node) (told (at tree inputs cycle) (state node));
    counter = λ cycle node. if graph.live node then counter_in (graph.form node) (shown (at tree inputs cycle) (state node)) else 0;
    started = λ cycle. told (at tree inputs cycle) draft.states.now.started;
  }

  pub inside : (node : ℕ) → graph.live node ≡ true → node < length draft.plan.now.nodes.items
  inside node live = elim (cases_lt node (length draft.plan.now.nodes.items)) [
    | inl less ↦ less
    | inr past ↦ absurd (false≢true (sym (is.plan.dead node past) ∙ live))
  ]

  abbrev form_same : (node : ℕ) → graph.live node ≡ true → form_in draft.plan.now.nodes.items node ≡ graph.form node
  form_same node live = is.plan.forms node (inside node live)

  tail_same : (node : ℕ) → graph.live node ≡ true → graph.forgets node ≡ not (plan_at draft.plan.now.nodes.items node).tail
  tail_same node live = ap (λ tail. not tail) (sym (is.plan.tails node (inside node live)))

  pub pulse_drawn : (node : ℕ) → graph.live node ≡ true
      → PulseDrawn tree draft.plan.now.nodes.items draft.states.now.nodes.items wires draft.nets.decisions.items (λ now. told now draft.nets.begin) draft.nets.pulses.items node
  pulse_drawn node live = is.drawn.pulses node (inside node live)

  starts : (cycle : ℕ) → turn_begins graph pulses cycle ≡ told (at tree inputs cycle) draft.nets.begin
  starts cycle =
      sym (is.drawn.begins (at tree inputs cycle) (moments cycle)
      ∙ ap (λ last. not (told (at tree inputs cycle) draft.states.now.started) || told (at tree inputs cycle) (pulse_at draft.nets.pulses.items last).pulse) is.plan.last)

  bit_of_live : (cycle node : ℕ) → graph.live node ≡ true → pulses.bit cycle node ≡ bit_in (graph.form node) (told (at tree inputs cycle) (state node))
  bit_of_live cycle node live = rw live refl

  counter_of_live : (cycle node : ℕ) → graph.live node ≡ true → pulses.counter cycle node ≡ counter_in (graph.form node) (shown (at tree inputs cycle) (state node))
  counter_of_live cycle node live = rw live refl

  pulse_holds : (cycle node : ℕ) → graph.live node ≡ true → pulses.pulse cycle node ≡ pulse_of graph seen pulses cycle node (graph.form node)
  pulse_holds cycle node live =
      let drawn = pulse_drawn node live in
      drawn.tells (at tree inputs cycle) (moments cycle)
      ∙ (ap (λ form. pulse_from (pulses.pulse cycle) (told (at tree inputs cycle) (state node)) (shown (at tree inputs cycle) (state node)) (seen.wire node cycle) (told (at tree inputs cycle) draft.nets.begin) (not (plan_at draft.plan.now.nodes.items node).tail) form) (form_same node live)
      ∙ pulse_is graph seen pulses cycle node (told (at tree inputs cycle) (state node)) (shown (at tree inputs cycle) (state node)) (seen.wire node cycle) (told (at tree inputs cycle) draft.nets.begin) (not (plan_at draft.plan.now.nodes.items node).tail)
      refl refl (starts cycle) (tail_same node live) (graph.form node) (bit_of_live cycle node live) (counter_of_live cycle node live))

  -- the register of a node that keeps something
  abbrev Keeps : ℕ → Form ℕ → Type 0
  Keeps node form = keeps_state form ≡ true
      → (next : Signal) × (shown (at tree inputs 0) (state node) ≡ 0)
      × ((cycle : ℕ) → shown (at tree inputs (cycle + 1)) (state node) ≡ shown (at tree inputs cycle) next)
      × NodeNext tree wires draft node next form

  keeps : (node : ℕ) → graph.live node ≡ true → Keeps node (graph.form node)
  keeps node live = subst (λ form. Keeps node form) (form_same node live)
      (λ has.
      let register = (is.states.nodes node (inside node live) has).0 in
      let k = kept (keep.Node number node) tt (state node) register in
      (k.next, k.reset, k.takes, k.drawn draft here))

  next_is_bit : (cycle node : ℕ) (form : Form ℕ) → Keeps node form
      → BitNext pulses cycle (told (at tree inputs cycle) (pulse_at draft.nets.pulses.items node).known) (seen.wire node cycle) form (bit_in form (told (at tree inputs (cycle + 1)) (state node)))
  next_is_bit cycle node Start has = refl
  next_is_bit cycle node (Same from) has = refl
  next_is_bit cycle node (After delay from) has = refl
  next_is_bit cycle node (Sync from) has = let k = has refl in ap (λ n. n == 1) (k.2 cycle) ∙ k.3 (at tree inputs cycle) (moments cycle)
  next_is_bit cycle node (Side from) has = refl
  next_is_bit cycle node (Join first second) has = let k = has refl in ap (λ n. n == 1) (k.2 cycle) ∙ k.3 (at tree inputs cycle) (moments cycle)
  next_is_bit cycle node (Merge first second) has = refl

  bit_holds : (cycle node : ℕ) → graph.live node ≡ true → pulses.bit (cycle + 1) node ≡ next_bit graph seen pulses cycle node (graph.form node)
  bit_holds cycle node live =
      bit_of_live (cycle + 1) node live
      ∙ bit_is graph seen pulses cycle node (told (at tree inputs cycle) (state node)) (seen.wire node cycle) (told (at tree inputs cycle) draft.nets.begin) (not (plan_at draft.plan.now.nodes.items node).tail)
      refl (starts cycle) (tail_same node live) (graph.form node)
      (told (at tree inputs cycle) (pulse_at draft.nets.pulses.items node).known)
      (bit_in (graph.form node) (told (at tree inputs (cycle + 1)) (state node)))
      (bit_of_live cycle node live)
      (subst (λ form. Knows (told (at tree inputs cycle) (pulse_at draft.nets.pulses.items node).known) (pulses.pulse cycle) (told (at tree inputs cycle) (state node)) (told (at tree inputs cycle) draft.nets.begin) (not (plan_at draft.plan.now.nodes.items node).tail) form)
      (form_same node live) ((pulse_drawn node live).knows (at tree inputs cycle) (moments cycle)))
      (next_is_bit cycle node (graph.form node) (keeps node live))

  next_is_counter : (cycle node : ℕ) (form : Form ℕ) → Keeps node form → pulses.counter cycle node ≡ counter_in form (shown (at tree inputs cycle) (state node))
      → counter_in form (shown (at tree inputs (cycle + 1)) (state node)) ≡ next_counter pulses cycle node form
  next_is_counter cycle node Start has is = refl
  next_is_counter cycle node (Same from) has is = refl
  next_is_counter cycle node (After delay from) has is = let k = has refl in rw is (k.2 cycle ∙ k.3 (at tree inputs cycle) (moments cycle))
  next_is_counter cycle node (Sync from) has is = refl
  next_is_counter cycle node (Side from) has is = refl
  next_is_counter cycle node (Join first second) has is = refl
  next_is_counter cycle node (Merge first second) has is = refl

  counter_holds : (cycle node : ℕ) → graph.live node ≡ true → pulses.counter (cycle + 1) node ≡ next_counter pulses cycle node (graph.form node)
  counter_holds cycle node live = counter_of_live (cycle + 1) node live ∙ next_is_counter cycle node (graph.form node) (keeps node live) (counter_of_live cycle node live)

  first_bit : (node : ℕ) (form : Form ℕ) → Keeps node form → bit_in form (told (at tree inputs 0) (state node)) ≡ false
  first_bit node Start has = refl
  first_bit node (Same from) has = refl
  first_bit node (After delay from) has = refl
  first_bit node (Sync from) has = ap (λ n. n == 1) (has refl).1
  first_bit node (Side from) has = refl
  first_bit node (Join first second) has = ap (λ n. n == 1) (has refl).1
  first_bit node (Merge first second) has = refl

  first_counter : (node : ℕ) (form : Form ℕ) → Keeps node form → counter_in form (shown (at tree inputs 0) (state node)) ≡ 0
  first_counter node Start has = refl
  first_counter node (Same from) has = refl
  first_counter node (After delay from) has = (has refl).1
  first_counter node (Sync from) has = refl
  first_counter node (Side from) has = refl
  first_counter node (Join first second) has = refl
  first_counter node (Merge first second) has = refl

  where_live : (live bit : Bool) → (live ≡ true → bit ≡ false) → (live && bit) ≡ false
  where_live true bit none = none refl
  where_live false bit none = refl

  where_live_number : (live : Bool) (count : ℕ) → (live ≡ true → count ≡ 0) → (if live then count else 0) ≡ 0
  where_live_number true count none = none refl
  where_live_number false count none = refl

  pub pulses_are : IsPulseMachine graph seen pulses
  pulses_are =
      let start = kept (keep.Started number) tt draft.states.now.started is.states.started in
      record {
        unstarted = ap (λ n. n == 1) start.reset;
        starts = λ cycle. ap (λ n. n == 1) (start.takes cycle) ∙ start.drawn (at tree inputs cycle) (moments cycle);
        no_bit = λ node. where_live (graph.live node) _ (λ live. first_bit node (graph.form node) (keeps node live));
        no_count = λ node. where_live_number (graph.live node) _ (λ live. first_counter node (graph.form node) (keeps node live));
        pulses = pulse_holds;
        bits = bit_holds;
        counters = counter_holds;
      }
