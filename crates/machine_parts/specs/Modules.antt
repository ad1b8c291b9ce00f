-- What a module gives its registers and its ports, over the threads as they are drawn.
use Rattle.std.specs.Prelude.{ℕ, ◌≡◌, ◌==◌, ◌<◌, ◌-◌, ◌&&◌, not, if◌then◌else◌, true, false, List, length, slice_get, slice_index_or, Some}
use Rattle.order_rules.specs.Form.{Form, After, Sync, Join}
use Rattle.order_rules.specs.Entry.{IsEarlier}
use Rattle.core_term.specs.declared.process.CorePort.{CorePort}
use Rattle.sv_tree.specs.declared.tree.SvOperand.{SvOperand}
use Rattle.sv_tree.specs.declared.tree.SvOut.{SvOut}
use Rattle.sv_tree.specs.declared.tree.SvOut.TheVariants.{Received, Sent}
use Rattle.sv_tree.specs.Module.{Module}
use Rattle.module_nets.specs.declared.signal.Signal.{Signal}
use Rattle.module_nets.specs.Netlist as netlist
use Rattle.module_nets.specs.Shown.{Moment, IsMomentOf, Shows, operand_shown, shown}
use Rattle.module_nets.specs.Bits.{IsBit, Tells, told, xor}
use Rattle.module_nets.specs.Signals.{signal_at}
use Rattle.pulse_nets.specs.Pulses.{pulse_at, pulses_told}
use Rattle.act_deeds.specs.declared.deed.Deed.TheVariants as deeds
use Rattle.act_deeds.specs.Deeds.{deed_at}
use Rattle.machine_parts.specs.declared.frame.Keep.{Keep}
use Rattle.machine_parts.specs.declared.frame.Keep.TheVariants as keep
use Rattle.machine_parts.specs.declared.thread.ThreadDraft.{ThreadDraft}
use Rattle.machine_parts.specs.Parts.{bit_at, zero_bit, node_at, plan_at, form_in, event_told}
use Rattle.machine_parts.specs.Frames.{keep_at, register_at}
use Rattle.machine_parts.specs.Nodes.{AreBits, StateStands}
use Rattle.machine_parts.specs.Drafts.{data_now, port_offered, written_now}

-- What is asked of a thread, so that the registers and ports can be given what it makes: in a netlist where the registers
-- of the source and the data of ports have these widths
pub record DraftStands (old : Module) (registers : List Signal) (ports : List CorePort) (wires : List Signal)
    (draft : ThreadDraft) : Type 0 where
  pub pulse_count : length draft.nets.pulses.items ≡ length draft.plan.now.nodes.items
  pub pulses : (node : ℕ) → node < length draft.plan.now.nodes.items
      → IsBit old (pulse_at draft.nets.pulses.items node).pulse × IsBit old (pulse_at draft.nets.pulses.items node).known
  pub earlier : (node : ℕ) → node < length draft.plan.now.nodes.items
      → IsEarlier node (form_in draft.plan.now.nodes.items node)
  pub states : (node : ℕ) → node < length draft.plan.now.nodes.items
      → StateStands old (bit_at draft.states.now.nodes.items node) (form_in draft.plan.now.nodes.items node)
  pub begin_count : length draft.plan.now.begins.items ≡ length draft.plan.now.deeds.items
  pub end_count : length draft.plan.now.ends.items ≡ length draft.plan.now.deeds.items
  pub begins : (site : ℕ) → site < length draft.plan.now.deeds.items
      → node_at draft.plan.now.begins.items site < length draft.plan.now.nodes.items
  pub ends : (site : ℕ) → site < length draft.plan.now.deeds.items
      → node_at draft.plan.now.ends.items site < length draft.plan.now.nodes.items
  pub value_count : length draft.nets.values.items ≡ length draft.plan.now.deeds.items
  pub sets : (site register : ℕ) → deed_at draft.plan.now.deeds.items site ≡ deeds.Sets register
      → netlist.Stands old (signal_at draft.nets.values.items site)
      × ((signal_at draft.nets.values.items site).width ≡ (signal_at registers register).width)
  pub sends : (site port : ℕ) (is : CorePort) → deed_at draft.plan.now.deeds.items site ≡ deeds.Sends port
      → slice_get ports port ≡ Some is
      → netlist.Stands old (signal_at draft.nets.values.items site)
      × ((signal_at draft.nets.values.items site).width ≡ is.width)
  pub side_count : length draft.nets.sides.items ≡ length draft.plan.now.deeds.items
  pub side_bits : AreBits old draft.nets.sides.items
  pub newest_count : length draft.newest.items ≡ length draft.plan.now.deeds.items
  pub newest_bits : AreBits old draft.newest.items
  pub decisions : AreBits old draft.nets.decisions.items

-- what the bit or the counter of a node takes at the end of a cycle
abbrev pub NodeNext : Module → (wires : List Signal) → ThreadDraft → (node : ℕ) → (next : Signal) → Form ℕ → Type 0
NodeNext old wires draft node next (Sync from) =
    Tells old next
    (λ now. told now (pulse_at draft.nets.pulses.items node).known
    && not (event_told now wires draft.nets.decisions.items (plan_at draft.plan.now.nodes.items node).event))
NodeNext old wires draft node next (Join first second) =
    Tells old next
    (λ now. xor (told now (pulse_at draft.nets.pulses.items node).known)
    (xor (pulses_told now draft.nets.pulses.items first) (pulses_told now draft.nets.pulses.items second)))
NodeNext old wires draft node next (After delay from) =
    Shows old next
    (λ now. if pulses_told now draft.nets.pulses.items from
    then delay
    else (shown now (bit_at draft.states.now.nodes.items node) - 1))
NodeNext old wires draft node next form = Unit {0}

-- what a register takes that keeps this
abbrev pub NextDrawn : Module → (registers wires : List Signal) → List ThreadDraft → Keep → (next : Signal) → Type 0
NextDrawn old registers wires drafts (keep.Source register) next =
    Shows old next (λ now. written_now now drafts register (shown now (signal_at registers register)))
NextDrawn old registers wires drafts (keep.Started thread) next = Tells old next (λ now. true)
NextDrawn old registers wires drafts (keep.Node thread node) next =
    (draft : ThreadDraft) → slice_get drafts thread ≡ Some draft
    → NodeNext old wires draft node next (form_in draft.plan.now.nodes.items node)
NextDrawn old registers wires drafts (keep.Side thread site) next =
    (draft : ThreadDraft) → slice_get drafts thread ≡ Some draft
    → Tells old next (λ now. told now (bit_at draft.nets.sides.items site))
NextDrawn old registers wires drafts (keep.Newest thread site) next =
    (draft : ThreadDraft) → slice_get drafts thread ≡ Some draft
    → Tells old next (λ now. told now (bit_at draft.newest.items site))

abbrev pub no_operand : SvOperand
no_operand = zero_bit.operand

-- the next value of a register, with the width of the register
abbrev pub next_at : Module → ℕ → Signal
next_at tree place =
    record { operand = slice_index_or tree.nexts place no_operand; width = (register_at tree.regs place).width }

-- what a port is given
abbrev pub OutDrawn : Module → List ThreadDraft → (port : ℕ) → CorePort → SvOut → Type 0
OutDrawn old drafts port is (Received ack) =
    (is.received ≡ true)
    × ((now : Moment) → IsMomentOf old now → (operand_shown now ack == 1) ≡ port_offered now drafts port)
OutDrawn old drafts port is (Sent value valid) =
    (is.received ≡ false)
    × ((now : Moment) → IsMomentOf old now → (operand_shown now valid == 1) ≡ port_offered now drafts port)
    × ((now : Moment) → IsMomentOf old now → operand_shown now value ≡ data_now now drafts port)

-- a module that gives its registers and ports what the threads make
pub record ModuleDrawn (tree : Module) (keeps : List Keep) (ports : List CorePort) (registers wires : List Signal)
    (drafts : List ThreadDraft) : Type 0 where
  pub nexts : (place : ℕ) → place < length keeps
      → NextDrawn tree registers wires drafts (keep_at keeps place) (next_at tree place)
  pub outs : (port : ℕ) (is : CorePort) → slice_get ports port ≡ Some is
      → (out : SvOut) × (slice_get tree.outs port ≡ Some out) × OutDrawn tree drafts port is out
