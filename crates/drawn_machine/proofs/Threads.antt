-- The machines of all threads, by their numbers, and that each does what its thread does that is drawn.
use Rattle.std.proofs.Common.{◌≡◌, ℕ, zero, suc, ◌+◌, ◌<◌, Bool, true, false, not, List, [], ◌∷◌, length, refl, sym, ◌∙◌, ap, subst, arith}
use Rattle.std.specs.Prelude.{◌==◌, ◌&&◌, ◌||◌, if◌then◌else◌, slice_get, Option, Some, None}
use Rattle.std.proofs.lemmas.Bool.{eqb-true}
use Rattle.order_rules.specs.Form.{Sync}
use Rattle.core_term.specs.Inputs.{Inputs}
use Rattle.core_term.specs.Term.{Term, One, Nothing, site}
use Rattle.core_term.specs.Numbering.{size, Numbered}
use Rattle.core_term.specs.Points.{End}
use Rattle.core_term.specs.Process.{Thread, IsThread}
use Rattle.sv_tree.specs.Module.{Module}
use Rattle.module_nets.specs.declared.signal.Signal.{Signal}
use Rattle.module_nets.specs.Shown.{IsMomentOf, shown}
use Rattle.module_nets.specs.Bits.{told}
use Rattle.module_nets.specs.Signals.{signal_at}
use Rattle.event_graph.specs.Forms.{form_at, apart_at}
use Rattle.event_points.specs.Nodes.{once}
use Rattle.turn_pulses.specs.Latest.{IsNewest, some_begin}
use Rattle.pulse_nets.specs.Pulses.{Knows, pulse_at, pulses_told}
use Rattle.process_machine.specs.ThreadMachine.{IsThreadMachine, ThreadMachine, begins_in, offer, offered_in}
use Rattle.process_machine.specs.ProcessMachine.{act_offered, send_begins, set_begins}
use Rattle.process_machine.specs.TurnMachine.{TurnNets, machine_of}
use Rattle.act_deeds.specs.declared.deed.Deed.{Deed}
use Rattle.act_deeds.specs.declared.deed.Deed.TheVariants as deed
use Rattle.act_deeds.specs.Deeds.{deed_at}
use Rattle.machine_parts.specs.declared.frame.Frame.{Frame}
use Rattle.machine_parts.specs.declared.frame.Keep.{Keep}
use Rattle.machine_parts.specs.declared.frame.Keep.TheVariants as keep
use Rattle.machine_parts.specs.declared.thread.ThreadDraft.{ThreadDraft}
use Rattle.machine_parts.specs.Parts.{bit_at, event_told, form_in, plan_at}
use Rattle.machine_parts.specs.Plans.{graph_of, node_of}
use Rattle.machine_parts.specs.Frames.{HasRegister}
use Rattle.machine_parts.specs.Drafts.{begun_now, is_on, is_send, is_set, offered_now, sends_now}
use Rattle.drawn_machine.specs.Drawn.{IsThreadDraft}
use Rattle.drawn_machine.proofs.Moments.{at}
use Rattle.drawn_machine.proofs.Kept.{IsState, Kept}
use Rattle.drawn_machine.proofs.Pulsing.{bit_in, counter_in, inside as inside_graph, pulse_drawn}
use Rattle.drawn_machine.proofs.Passing.{act_on, ons_same, sends_same, sets_same}
use Rattle.drawn_machine.proofs.Folding.{DoesSame, some_same}

-- the nets of a thread, read in each cycle
abbrev pub nets_by : Module → Inputs → (wires : List Signal) → Term → ThreadDraft → TurnNets
nets_by tree inputs wires body draft = record {
  form = form_at (once body);
  apart = apart_at (once body);
  node_of = node_of body;
  seen = record {
    wire = λ node cycle. event_told (at tree inputs cycle) wires draft.nets.decisions.items (plan_at draft.plan.now.nodes.items node).event;
    chosen = λ node cycle. event_told (at tree inputs cycle) wires draft.nets.decisions.items (plan_at draft.plan.now.nodes.items node).event;
  };
  pulses = record {
    pulse = λ cycle node. told (at tree inputs cycle) (pulse_at draft.nets.pulses.items node).pulse;
    bit = λ cycle node. (graph_of body).live node && bit_in ((graph_of body).form node) (told (at tree inputs cycle) (bit_at draft.states.now.nodes.items node));
    counter = λ cycle node. if (graph_of body).live node then counter_in ((graph_of body).form node) (shown (at tree inputs cycle) (bit_at draft.states.now.nodes.items node)) else 0;
    started = λ cycle. told (at tree inputs cycle) draft.states.now.started;
  };
  value = λ place cycle. shown (at tree inputs cycle) (signal_at draft.nets.values.items place);
  decision = λ place cycle. told (at tree inputs cycle) (bit_at draft.nets.decisions.items place);
  side = λ place cycle. told (at tree inputs cycle) (bit_at draft.nets.sides.items place);
  kept_side = λ place cycle. told (at tree inputs cycle) (bit_at draft.states.now.sides.items place);
}

-- nets that never show anything, for numbers that are no thread's
abbrev no_nets : Term → TurnNets
no_nets body = record {
  form = form_at (once body);
  apart = apart_at (once body);
  node_of = node_of body;
  seen = record { wire = λ node cycle. false; chosen = λ node cycle. false };
  pulses = record { pulse = λ cycle node. false; bit = λ cycle node. false; counter = λ cycle node. 0; started = λ cycle. false };
  value = λ place cycle. 0;
  decision = λ place cycle. false;
  side = λ place cycle. false;
  kept_side = λ place cycle. false;
}

abbrev body_at : List Thread → ℕ → Term
body_at [] number = One (Nothing 0)
body_at (thread ∷ threads) zero = thread.body
body_at (thread ∷ threads) (suc number) = body_at threads number

body_same : (threads : List Thread) (number : ℕ) (thread : Thread) → IsThread threads number thread → body_at threads number ≡ thread.body
body_same [] number thread is = elim is [ ]
body_same (first ∷ threads) zero thread is = ap (λ thread. thread.body) is
body_same (first ∷ threads) (suc number) thread is = body_same threads number thread is

abbrev pub machine_in : Module → Inputs → (wires : List Signal) → Term → Option ThreadDraft → ThreadMachine
machine_in tree inputs wires body None = machine_of body (no_nets body)
machine_in tree inputs wires body (Some draft) = machine_of body (nets_by tree inputs wires body draft)

-- which `send` began last, as shown by the nets and as kept by the registers
abbrev pub newest_in : Module → Inputs → Option ThreadDraft → (port site cycle : ℕ) → Bool
newest_in tree inputs None port site cycle = false
newest_in tree inputs (Some draft) port site cycle =
    is_send port (deed_at draft.plan.now.deeds.items site) && told (at tree inputs cycle) (bit_at draft.newest.items site)

abbrev pub kept_in : Module → Inputs → Option ThreadDraft → (port site cycle : ℕ) → Bool
kept_in tree inputs None port site cycle = false
kept_in tree inputs (Some draft) port site cycle =
    is_send port (deed_at draft.plan.now.deeds.items site) && told (at tree inputs cycle) (bit_at draft.states.now.newest.items site)

abbrev pub machines_in : Module → Inputs → (wires : List Signal) → List Thread → List ThreadDraft → ℕ → ThreadMachine
machines_in tree inputs wires threads drafts number = machine_in tree inputs wires (body_at threads number) (slice_get drafts number)

pub machine_same : (tree : Module) (inputs : Inputs) (wires : List Signal) (threads : List Thread) (drafts : List ThreadDraft) (number : ℕ) (thread : Thread) (draft : ThreadDraft)
    → IsThread threads number thread → slice_get drafts number ≡ Some draft
    → machines_in tree inputs wires threads drafts number ≡ machine_of thread.body (nets_by tree inputs wires thread.body draft)
machine_same tree inputs wires threads drafts number thread draft is here =
    ap (λ body. machine_in tree inputs wires body (slice_get drafts number)) (body_same threads number thread is) ∙ ap (machine_in tree inputs wires thread.body) here

and_same : (a b c d : Bool) → a ≡ c → b ≡ d → (a && b) ≡ (c && d)
and_same a b c d first second = rw (first, second) refl

pub sending : (port : ℕ) (act : Deed) → is_send port act ≡ true → act ≡ deed.Sends port
sending port (deed.Sends other) is = ap deed.Sends (eqb-true other port is)
sending port (deed.Sets register) is = absurd cc
sending port (deed.Receives other) is = absurd cc
sending port deed.Decides is = absurd cc
sending port deed.Other is = absurd cc

if_bit : (a b c d e f : Bool) → a ≡ b → c ≡ d → e ≡ f → (if a then c else e) ≡ (if b then d else f)
if_bit a b c d e f first second third = rw (first, second, third) refl

none_either : (some : Bool) → (if some then false else false) ≡ false
none_either true = refl
none_either false = refl

module _ (tree : Module) (inputs : Inputs) (moments : (cycle : ℕ) → IsMomentOf tree (at tree inputs cycle)) (frame : Frame)
    (sources received wires : List Signal) (number : ℕ) (thread : Thread) (draft : ThreadDraft)
    (is : IsThreadDraft tree frame sources received wires number thread draft)
    (drafts : List ThreadDraft) (here : slice_get drafts number ≡ Some draft)
    (kept : (kept : Keep) → IsState kept → (signal : Signal) → HasRegister frame kept signal → Kept tree inputs sources wires drafts kept signal)
    (numbered : Numbered [] 0 thread.body) (registers : (cycle register : ℕ) → ℕ)
    (machine_is : IsThreadMachine inputs registers thread.body (machine_of thread.body (nets_by tree inputs wires thread.body draft))) where
  abbrev machine : ThreadMachine
  machine = machine_of thread.body (nets_by tree inputs wires thread.body draft)

  begun_same : (place cycle : ℕ) → place < size thread.body → begins_in machine place cycle ≡ begun_now (at tree inputs cycle) draft.plan.now draft.nets.pulses.items place
  begun_same place cycle inside = ap (λ node. told (at tree inputs cycle) (pulse_at draft.nets.pulses.items node).pulse) (sym (is.plan.begins place inside))

  sets_do : (register place cycle : ℕ) → place < size thread.body
      → set_begins machine thread.body register place cycle ≡ (is_set register (deed_at draft.plan.now.deeds.items place) && begun_now (at tree inputs cycle) draft.plan.now draft.nets.pulses.items place)
  sets_do register place cycle inside = and_same _ _ _ _ (sets_same thread.body numbered draft.plan.now.deeds.items is.plan.deeds register place inside) (begun_same place cycle inside)

  sends_do : (port place cycle : ℕ) → place < size thread.body
      → send_begins machine thread.body port place cycle ≡ sends_now (at tree inputs cycle) draft.plan.now draft.nets.pulses.items port place
  sends_do port place cycle inside = and_same _ _ _ _ (sends_same thread.body numbered draft.plan.now.deeds.items is.plan.deeds port place inside) (begun_same place cycle inside)

  -- the node of the end of an act on a port knows whether the act is offered
  known_at : (place cycle node : ℕ) → (live : (graph_of thread.body).live node ≡ true) → (from : ℕ) → (graph_of thread.body).form node ≡ Sync from
      → (machine.pulses.pulse cycle from || machine.pulses.bit cycle node) ≡ told (at tree inputs cycle) (pulse_at draft.nets.pulses.items node).known
  known_at place cycle node live from is_sync =
      let drawn = pulse_drawn tree inputs moments frame sources received wires number thread draft is drafts here kept node live in
      let form_is : form_in draft.plan.now.nodes.items node ≡ Sync from = is.plan.forms node (inside_graph tree inputs moments frame sources received wires number thread draft is drafts here kept node live) ∙ is_sync in
      let knows : told (at tree inputs cycle) (pulse_at draft.nets.pulses.items node).known ≡ (pulses_told (at tree inputs cycle) draft.nets.pulses.items from || told (at tree inputs cycle) (bit_at draft.states.now.nodes.items node)) =
      subst (λ form. Knows (told (at tree inputs cycle) (pulse_at draft.nets.pulses.items node).known) (pulses_told (at tree inputs cycle) draft.nets.pulses.items) (told (at tree inputs cycle) (bit_at draft.states.now.nodes.items node)) (told (at tree inputs cycle) draft.nets.begin) (not (plan_at draft.plan.now.nodes.items node).tail) form)
      form_is (drawn.knows (at tree inputs cycle) (moments cycle)) in
      let bit_is : machine.pulses.bit cycle node ≡ told (at tree inputs cycle) (bit_at draft.states.now.nodes.items node) = rw (live, is_sync) refl in
      rw bit_is (sym knows)

  offered_at : (port place cycle : ℕ) → place < size thread.body → is_on port (deed_at draft.plan.now.deeds.items place) ≡ true
      → offered_in machine place cycle ≡ offered_now (at tree inputs cycle) draft.plan.now draft.nets.pulses.items place
  offered_at port place cycle inside on =
      let act = act_on thread.body numbered draft.plan.now.deeds.items is.plan.deeds port place inside on in
      let end = machine_is.port_ends act.0 act.1 port act.2 act.4 in
      let node : ℕ = node_of thread.body (End place) in
      let live : (graph_of thread.body).live node ≡ true = subst (λ place. (graph_of thread.body).live (node_of thread.body (End place)) ≡ true) act.3 end.live in
      let is_sync : (graph_of thread.body).form node ≡ Sync end.from = subst (λ place. (graph_of thread.body).form (node_of thread.body (End place)) ≡ Sync end.from) act.3 end.is_sync in
      let offer_is : offered_in machine place cycle ≡ (machine.pulses.pulse cycle end.from || machine.pulses.bit cycle node) = ap (λ form. offer machine.pulses node cycle form) is_sync in
      offer_is ∙ (known_at place cycle node live end.from is_sync
      ∙ ap (λ node. told (at tree inputs cycle) (pulse_at draft.nets.pulses.items node).known) (sym (is.plan.ends place inside)))

  offers_do : (port place cycle : ℕ) → place < size thread.body
      → act_offered machine thread.body port place cycle
      ≡ (is_on port (deed_at draft.plan.now.deeds.items place) && offered_now (at tree inputs cycle) draft.plan.now draft.nets.pulses.items place)
  offers_do port place cycle inside =
      ap (λ on. on && offered_in machine place cycle) (ons_same thread.body numbered draft.plan.now.deeds.items is.plan.deeds port place inside)
      ∙ by_test (is_on port (deed_at draft.plan.now.deeds.items place)) refl
    where
      by_test : (on : Bool) → is_on port (deed_at draft.plan.now.deeds.items place) ≡ on → (on && offered_in machine place cycle) ≡ (on && offered_now (at tree inputs cycle) draft.plan.now draft.nets.pulses.items place)
      by_test true on = offered_at port place cycle inside on
      by_test false off = refl

  pub does_same : (cycle : ℕ) → DoesSame (at tree inputs cycle) machine (newest_in tree inputs (Some draft)) thread draft
  does_same cycle = record {
    count = is.plan.deeds.count;
    sets = λ register site inside. sets_do register site cycle inside;
    offers = λ port site inside. offers_do port site cycle inside;
    newest_is = λ port site inside. refl;
    values = λ site. refl;
  }

  abbrev newest : (port site cycle : ℕ) → Bool
  newest = newest_in tree inputs (Some draft)

  abbrev newest_kept : (port site cycle : ℕ) → Bool
  newest_kept = kept_in tree inputs (Some draft)

  kept_none : (port site : ℕ) (sends : Bool) → is_send port (deed_at draft.plan.now.deeds.items site) ≡ sends → newest_kept port site 0 ≡ false
  kept_none port site false is_not = rw is_not refl
  kept_none port site true sends =
      let register = (is.states.newest site port (sending port (deed_at draft.plan.now.deeds.items site) sends)).0 in
      let k = kept (keep.Newest number site) tt (bit_at draft.states.now.newest.items site) register in
      rw sends (ap (λ n. n == 1) k.reset)

  kept_next : (port site cycle : ℕ) (sends : Bool) → is_send port (deed_at draft.plan.now.deeds.items site) ≡ sends → newest_kept port site (cycle + 1) ≡ newest port site cycle
  kept_next port site cycle false is_not = rw is_not refl
  kept_next port site cycle true sends =
      let register = (is.states.newest site port (sending port (deed_at draft.plan.now.deeds.items site) sends)).0 in
      let k = kept (keep.Newest number site) tt (bit_at draft.states.now.newest.items site) register in
      rw sends (ap (λ n. n == 1) (k.takes cycle) ∙ k.drawn draft here (at tree inputs cycle) (moments cycle))

  some_sends : (port count cycle : ℕ) → ((act : ℕ) → act < count → act < size thread.body)
      → some_begin (λ other cycle. sends_now (at tree inputs cycle) draft.plan.now draft.nets.pulses.items port other) count cycle ≡ some_begin (send_begins machine thread.body port) count cycle
  some_sends port count cycle below = some_same _ _ count cycle (λ act less. sym (sends_do port act cycle (below act less)))

  abbrev Shows : (port site cycle : ℕ) → Type 0
  Shows port site cycle =
      newest port site cycle
      ≡ (if some_begin (send_begins machine thread.body port) (size thread.body) cycle
      then send_begins machine thread.body port site cycle && not (some_begin (send_begins machine thread.body port) site cycle)
      else newest_kept port site cycle)

  -- the count of acts is looked at in one cycle
  looked_at : (port count : ℕ) (cycle : ℕ)
      → some_begin (λ other later. sends_now (at tree inputs cycle) draft.plan.now draft.nets.pulses.items port other) count cycle
      ≡ some_begin (λ other cycle. sends_now (at tree inputs cycle) draft.plan.now draft.nets.pulses.items port other) count cycle
  looked_at port count cycle = some_same _ _ count cycle (λ act less. refl)

  newest_shows : (port site cycle : ℕ) → site < size thread.body → (sends : Bool) → is_send port (deed_at draft.plan.now.deeds.items site) ≡ sends → Shows port site cycle
  newest_shows port site cycle inside false is_not =
      let begun : send_begins machine thread.body port site cycle ≡ false = sends_do port site cycle inside ∙ ap (λ sends. sends && begun_now (at tree inputs cycle) draft.plan.now draft.nets.pulses.items site) is_not in
      let unkept : newest_kept port site cycle ≡ false = rw is_not refl in
      let unshown : newest port site cycle ≡ false = rw is_not refl in
      unshown ∙ sym (if_bit _ _ _ _ _ _ refl (ap (λ begun. begun && not (some_begin (send_begins machine thread.body port) site cycle)) begun) unkept ∙ none_either (some_begin (send_begins machine thread.body port) (size thread.body) cycle))
  newest_shows port site cycle inside true sends =
      let count = is.plan.deeds.count in
      let drawn = is.newest.sends site port (sending port (deed_at draft.plan.now.deeds.items site) sends) (at tree inputs cycle) (moments cycle) in
      let all = looked_at port (length draft.plan.now.deeds.items) cycle ∙ (some_sends port (length draft.plan.now.deeds.items) cycle (λ act less. omega (arith, less, count)) ∙ ap (λ count. some_begin (send_begins machine thread.body port) count cycle) count) in
      let before = looked_at port site cycle ∙ some_sends port site cycle (λ act less. omega (arith, less, inside)) in
      let begun : begun_now (at tree inputs cycle) draft.plan.now draft.nets.pulses.items site ≡ send_begins machine thread.body port site cycle =
      sym (sends_do port site cycle inside ∙ ap (λ sends. sends && begun_now (at tree inputs cycle) draft.plan.now draft.nets.pulses.items site) sends) in
      let kept_is : told (at tree inputs cycle) (bit_at draft.states.now.newest.items site) ≡ newest_kept port site cycle = rw sends refl in
      let shown_is : newest port site cycle ≡ told (at tree inputs cycle) (bit_at draft.newest.items site) = rw sends refl in
      shown_is ∙ (drawn ∙ if_bit _ _ _ _ _ _ all (and_same _ _ _ _ begun (ap (λ some. not some) before)) kept_is)

  pub newest_are : (port : ℕ) → IsNewest (size thread.body) (send_begins machine thread.body port) (newest port) (newest_kept port)
  newest_are port = record {
    none = λ site. kept_none port site (is_send port (deed_at draft.plan.now.deeds.items site)) refl;
    keeps = λ site cycle inside. kept_next port site cycle (is_send port (deed_at draft.plan.now.deeds.items site)) refl;
    shows = λ site cycle inside. newest_shows port site cycle inside (is_send port (deed_at draft.plan.now.deeds.items site)) refl;
  }
