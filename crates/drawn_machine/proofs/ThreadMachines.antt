-- A drawn thread is a machine of the thread: it sees the wires and the sides of its acts, has the pulses, and reads again.
use Rattle.std.proofs.Common.{◌≡◌, ℕ, ◌<◌, Bool, true, false, List, [], refl, sym, ◌∙◌, ap, subst}
use Rattle.std.specs.Prelude.{◌==◌, slice_get, Some}
use Rattle.anvil_bits.specs.Operators.{truth}
use Rattle.core_term.specs.Inputs.{Inputs}
use Rattle.core_term.specs.Term.{Term, Act, Cycle, Set, Send, Recv, If, When, Block, Wait, Pure, Nothing, site, head}
use Rattle.core_term.specs.Stands.{Stands}
use Rattle.core_term.specs.Acts.{OnPort, Receives, Sends}
use Rattle.core_term.specs.Process.{Process, Thread, IsProcess, IsThread, is_received}
use Rattle.run_laws.specs.TurnLaws.{answer}
use Rattle.sv_tree.specs.Module.{Module}
use Rattle.module_nets.specs.declared.signal.Signal.{Signal}
use Rattle.module_nets.specs.Shown.{IsMomentOf, operand_shown, shown}
use Rattle.module_nets.specs.Bits.{told}
use Rattle.module_nets.specs.Signals.{signal_at}
use Rattle.event_graph.specs.Forms.{form_at, apart_at}
use Rattle.event_points.specs.Nodes.{once}
use Rattle.event_points.proofs.Once.{stand}
use Rattle.turn_machine.specs.OneTurn.{IsTurnBody, SeesSides, SeesTurn}
use Rattle.process_machine.specs.ThreadMachine.{IsThreadMachine, ThreadMachine}
use Rattle.process_machine.specs.TurnMachine.{IsTurnMachine, TurnNets, machine_of}
use Rattle.process_machine.proofs.TurnMachines.{is_thread_machine}
use Rattle.machine_parts.specs.declared.frame.Frame.{Frame}
use Rattle.machine_parts.specs.declared.frame.Keep.{Keep}
use Rattle.machine_parts.specs.declared.plan.Event.{Event}
use Rattle.machine_parts.specs.declared.thread.ThreadDraft.{ThreadDraft}
use Rattle.machine_parts.specs.Parts.{bit_at, event_told, plan_at}
use Rattle.machine_parts.specs.Plans.{SidesWait, node_of}
use Rattle.machine_parts.specs.Frames.{HasRegister}
use Rattle.drawn_machine.specs.Drawn.{AreSources, IsThreadDraft, NamesThere}
use Rattle.drawn_machine.proofs.Moments.{at}
use Rattle.drawn_machine.proofs.Kept.{IsState, Kept}
use Rattle.drawn_machine.proofs.Pulsing.{seen, pulses, pulses_are}
use Rattle.drawn_machine.proofs.Reading.{reads}

truth_told : (bit : Bool) → (truth bit == 1) ≡ bit
truth_told true = refl
truth_told false = refl

module _ (p : Process) (process : IsProcess p) (there : NamesThere p) (tree : Module) (inputs : Inputs)
    (moments : (cycle : ℕ) → IsMomentOf tree (at tree inputs cycle)) (frame : Frame) (sources received wires : List Signal)
    (sources_are : AreSources p sources received wires) (number : ℕ) (thread : Thread) (is_thread : IsThread p.threads number thread)
    (draft : ThreadDraft) (is : IsThreadDraft tree frame sources received wires number thread draft)
    (drafts : List ThreadDraft) (here : slice_get drafts number ≡ Some draft)
    (kept : (kept : Keep) → IsState kept → (signal : Signal) → HasRegister frame kept signal → Kept tree inputs sources wires drafts kept signal)
    (registers : (cycle register : ℕ) → ℕ)
    (words : (cycle port : ℕ) → cycle < inputs.count → is_received p port ≡ true → shown (at tree inputs cycle) (signal_at received port) ≡ inputs.data_at port cycle)
    (shows : (cycle register : ℕ) → cycle < inputs.count → shown (at tree inputs cycle) (signal_at sources register) ≡ registers cycle register) where
  body_is : IsTurnBody thread.body
  body_is = record { numbered = process.numbered number thread is_thread; tail = process.takes_time number thread is_thread; cycles = process.cycles number thread is_thread }

  -- the wire of a port tells what ends an act on it
  answered : (act : Act) (port : ℕ) → OnPort act port → (scope : List Act) (term : Term) → Stands [] thread.body scope term → head term ≡ act
      → (cycle : ℕ) → told (at tree inputs cycle) (bit_at wires port) ≡ answer inputs act cycle
  answered (Send q m e) port on scope term stands same cycle =
      let on_here : OnPort (head term) m = subst (λ act. OnPort act m) (sym same) refl in
      let inside = there.acts number thread (site (head term)) m is_thread (scope, term, stands, refl, on_here) in
      let sent = process.sends number thread (site (head term)) m is_thread (scope, term, stands, refl, subst (λ act. Sends act m) (sym same) refl) in
      subst (λ port. told (at tree inputs cycle) (bit_at wires port) ≡ inputs.ack m cycle) on
      (ap (λ operand. operand_shown (at tree inputs cycle) operand == 1) (sources_are.acks m inside sent) ∙ truth_told (inputs.ack m cycle))
  answered (Recv q m) port on scope term stands same cycle =
      let on_here : OnPort (head term) m = subst (λ act. OnPort act m) (sym same) refl in
      let inside = there.acts number thread (site (head term)) m is_thread (scope, term, stands, refl, on_here) in
      let heard = process.receives number thread (site (head term)) m is_thread (scope, term, stands, refl, subst (λ act. Receives act m) (sym same) refl) in
      subst (λ port. told (at tree inputs cycle) (bit_at wires port) ≡ inputs.valid m cycle) on
      (ap (λ operand. operand_shown (at tree inputs cycle) operand == 1) (sources_are.valids m inside heard) ∙ truth_told (inputs.valid m cycle))
  answered (Cycle q n) port on scope term stands same cycle = elim on [ ]
  answered (Set q r e) port on scope term stands same cycle = elim on [ ]
  answered (If q e t u w) port on scope term stands same cycle = elim on [ ]
  answered (When q e t) port on scope term stands same cycle = elim on [ ]
  answered (Block q t) port on scope term stands same cycle = elim on [ ]
  answered (Wait q y) port on scope term stands same cycle = elim on [ ]
  answered (Pure q e) port on scope term stands same cycle = elim on [ ]
  answered (Nothing q) port on scope term stands same cycle = elim on [ ]

  abbrev event : ℕ → Event
  event node = (plan_at draft.plan.now.nodes.items node).event

  abbrev Waits : Event → (ℕ → Bool) → Type 0
  Waits awaited chosen = (cycle : ℕ) → event_told (at tree inputs cycle) wires draft.nets.decisions.items awaited ≡ chosen cycle

  sides_seen : (act : Act) → SidesWait draft.plan.now thread.body act
      → SeesSides (λ place cycle. told (at tree inputs cycle) (bit_at draft.nets.decisions.items place)) (node_of thread.body)
      (λ node cycle. event_told (at tree inputs cycle) wires draft.nets.decisions.items (event node)) act
  sides_seen (If q e t u w) waits = (
    λ start. ap (λ awaited. event_told (at tree inputs start) wires draft.nets.decisions.items awaited) waits.0,
    λ start. ap (λ awaited. event_told (at tree inputs start) wires draft.nets.decisions.items awaited) waits.1,
  )
  sides_seen (When q e t) waits = (
    λ start. ap (λ awaited. event_told (at tree inputs start) wires draft.nets.decisions.items awaited) waits.0,
    λ start. ap (λ awaited. event_told (at tree inputs start) wires draft.nets.decisions.items awaited) waits.1,
  )
  sides_seen (Cycle q n) waits = tt
  sides_seen (Set q r e) waits = tt
  sides_seen (Send q m e) waits = tt
  sides_seen (Recv q m) waits = tt
  sides_seen (Block q t) waits = tt
  sides_seen (Wait q y) waits = tt
  sides_seen (Pure q e) waits = tt
  sides_seen (Nothing q) waits = tt

  abbrev pub nets : TurnNets
  nets = record {
    form = form_at (once thread.body);
    apart = apart_at (once thread.body);
    node_of = node_of thread.body;
    seen = seen tree inputs moments frame sources received wires number thread draft is drafts here kept;
    pulses = pulses tree inputs moments frame sources received wires number thread draft is drafts here kept;
    value = λ place cycle. shown (at tree inputs cycle) (signal_at draft.nets.values.items place);
    decision = λ place cycle. told (at tree inputs cycle) (bit_at draft.nets.decisions.items place);
    side = λ place cycle. told (at tree inputs cycle) (bit_at draft.nets.sides.items place);
    kept_side = λ place cycle. told (at tree inputs cycle) (bit_at draft.states.now.sides.items place);
  }

  sees : SeesTurn inputs nets.decision thread.body nets.node_of nets.seen
  sees = record {
    wires = λ scope term port stands on cycle.
        ap (λ awaited. event_told (at tree inputs cycle) wires draft.nets.decisions.items awaited) (is.plan.wires scope term port stands on)
        ∙ answered (head term) port on scope term stands refl cycle;
    sides = λ scope term stands. sides_seen (head term) (is.plan.sides scope term stands);
  }

  nets_are : IsTurnMachine inputs registers thread.body nets
  nets_are = record {
    stands = (stand thread.body body_is.numbered).stands;
    sees = sees;
    pulses_are = pulses_are tree inputs moments frame sources received wires number thread draft is drafts here kept;
    reads = reads tree inputs moments frame sources received wires number thread draft is drafts here kept body_is.numbered registers (λ port. is_received p port ≡ true) words shows
        (λ inner term port stands receives. process.receives number thread (site (head term)) port is_thread (inner, term, stands, refl, receives));
  }

  abbrev pub machine : ThreadMachine
  machine = machine_of thread.body nets

  pub machine_is : IsThreadMachine inputs registers thread.body machine
  machine_is = is_thread_machine inputs registers thread.body body_is nets nets_are
