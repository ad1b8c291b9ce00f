-- What is asked of the nodes of a plan and of the signals that they read, so that their pulses can be drawn one after the
-- other: first those of the tail, then whether a turn begins, then all others.
use Rattle.std.specs.Prelude.{ℕ, ◌≡◌, ◌^◌, ◌<◌, ◌≤◌, Bool, true, List, length}
use Rattle.order_rules.specs.Form.{Form, Start, Same, After, Sync, Join, Side, Merge}
use Rattle.order_rules.specs.Entry.{IsEarlier}
use Rattle.sv_tree.specs.Module.{Module}
use Rattle.module_nets.specs.declared.signal.Signal.{Signal}
use Rattle.module_nets.specs.Netlist as netlist
use Rattle.module_nets.specs.Shown.{Moment}
use Rattle.module_nets.specs.Bits.{IsBit}
use Rattle.pulse_nets.specs.declared.forms.Pulse.{Pulse}
use Rattle.pulse_nets.specs.Pulses.{pulse_at}
use Rattle.machine_parts.specs.declared.plan.Event.TheVariants as event
use Rattle.machine_parts.specs.declared.plan.NodePlan.{NodePlan}
use Rattle.machine_parts.specs.Parts.{bit_at, plan_at, form_in}
use Rattle.machine_parts.specs.Threads.{PulseDrawn}

-- a node of the tail is a delay, which is a register, or made from nodes of the tail
abbrev pub IsOfTail : List NodePlan → Form ℕ → Type 0
IsOfTail nodes Start = ⊥
IsOfTail nodes (Same from) = (plan_at nodes from).tail ≡ true
IsOfTail nodes (After delay from) = Unit {0}
IsOfTail nodes (Sync from) = ⊥
IsOfTail nodes (Join first second) = ((plan_at nodes first).tail ≡ true) × ((plan_at nodes second).tail ≡ true)
IsOfTail nodes (Side from) = ⊥
IsOfTail nodes (Merge first second) = ((plan_at nodes first).tail ≡ true) × ((plan_at nodes second).tail ≡ true)

pub record AreNodes (nodes : List NodePlan) : Type 0 where
  pub earlier : (node : ℕ) → node < length nodes → IsEarlier node (form_in nodes node)
  pub tails : (node : ℕ) → node < length nodes → (plan_at nodes node).tail ≡ true → IsOfTail nodes (form_in nodes node)

-- the register of a node, as its form asks for it
abbrev pub StateStands : Module → Signal → Form ℕ → Type 0
StateStands old state Start = Unit {0}
StateStands old state (Same from) = Unit {0}
StateStands old state (After delay from) = netlist.Stands old state × (delay < 2 ^ state.width)
StateStands old state (Sync from) = IsBit old state
StateStands old state (Join first second) = IsBit old state
StateStands old state (Side from) = Unit {0}
StateStands old state (Merge first second) = Unit {0}

abbrev pub AreStatesDrawn : Module → List NodePlan → (states : List Signal) → Type 0
AreStatesDrawn old nodes states =
    (node : ℕ) → node < length nodes → StateStands old (bit_at states node) (form_in nodes node)

-- bits by their numbers, past the list too
abbrev pub AreBits : Module → List Signal → Type 0
AreBits old bits = (place : ℕ) → IsBit old (bit_at bits place)

-- the nodes below a number wait for decisions of sites below another number alone
abbrev pub WaitBelow : List NodePlan → (bound sites : ℕ) → Type 0
WaitBelow nodes bound sites =
    (node place : ℕ) (first : Bool) → node < bound → node < length nodes
    → (plan_at nodes node).event ≡ event.Side place first → place < sites

-- the pulses of the first nodes are drawn; those of the tail are the ones that were drawn before
pub record PulsesSoFar (old : Module) (nodes : List NodePlan) (states wires decisions : List Signal)
    (begin : Moment → Bool) (tails pulses : List Pulse) : Type 0 where
  pub inside : length pulses ≤ length nodes
  pub drawn : (node : ℕ) → node < length pulses → PulseDrawn old nodes states wires decisions begin pulses node
  pub same : (node : ℕ) → node < length pulses → (plan_at nodes node).tail ≡ true
      → pulse_at pulses node ≡ pulse_at tails node
  pub known : WaitBelow nodes (length pulses) (length decisions)

-- the pulses of the tail alone, which never ask whether a turn begins and wait for no decision
abbrev pub TailsDrawn : Module → List NodePlan → (states wires : List Signal) → (tails : List Pulse) → Type 0
TailsDrawn old nodes states wires tails =
    (begin : Moment → Bool) (decisions : List Signal) (node : ℕ) → node < length nodes
    → (plan_at nodes node).tail ≡ true → PulseDrawn old nodes states wires decisions begin tails node
