-- What is asked of a thread so that what a register keeps can be drawn, and that it is drawn.
use Rattle.std.specs.Prelude.{ℕ, ◌≡◌, ◌<◌, true, List, length, map, slice_get, slice_index_or, Some}
use Rattle.order_rules.specs.Entry.{IsEarlier}
use Rattle.core_term.specs.declared.process.CoreReg.{CoreReg}
use Rattle.sv_tree.specs.declared.tree.SvOperand.{SvOperand}
use Rattle.sv_tree.specs.Module.{Module}
use Rattle.module_nets.specs.declared.signal.Signal.{Signal}
use Rattle.module_nets.specs.Netlist.{Stands}
use Rattle.module_nets.specs.Bits.{IsBit}
use Rattle.module_nets.specs.Signals.{signal_at}
use Rattle.pulse_nets.specs.Pulses.{pulse_at}
use Rattle.machine_parts.specs.declared.frame.Keep.{Keep}
use Rattle.machine_parts.specs.declared.frame.Keep.TheVariants as keep
use Rattle.machine_parts.specs.declared.thread.ThreadDraft.{ThreadDraft}
use Rattle.machine_parts.specs.Parts.{bit_at, form_in}
use Rattle.machine_parts.specs.Frames.{HasWidth, KeepFits, keep_at, keeps_state}
use Rattle.machine_parts.specs.Nodes.{AreBits, StateStands}
use Rattle.machine_parts.specs.Modules.{NextDrawn, no_operand}
use Rattle.process_nets.specs.Acts.{EachDraft, WritesStand}

-- of the nodes of a thread
pub record NodesStand (old : Module) (draft : ThreadDraft) : Type 0 where
  pub pulse_count : length draft.nets.pulses.items ≡ length draft.plan.now.nodes.items
  pub pulses : (node : ℕ) → node < length draft.plan.now.nodes.items
      → IsBit old (pulse_at draft.nets.pulses.items node).pulse
      × IsBit old (pulse_at draft.nets.pulses.items node).known
  pub earlier : (node : ℕ) → node < length draft.plan.now.nodes.items
      → IsEarlier node (form_in draft.plan.now.nodes.items node)
  pub states : (node : ℕ) → node < length draft.plan.now.nodes.items
      → StateStands old (bit_at draft.states.now.nodes.items node) (form_in draft.plan.now.nodes.items node)
  pub decisions : AreBits old draft.nets.decisions.items

-- for what a register keeps
abbrev pub KeepStands : Module → (registers : List Signal) → List ThreadDraft → Keep → Type 0
KeepStands old registers drafts (keep.Source register) =
    Stands old (signal_at registers register)
    × EachDraft (WritesStand old register (signal_at registers register).width) drafts
KeepStands old registers drafts (keep.Started thread) = Unit {0}
KeepStands old registers drafts (keep.Node thread node) =
    (draft : ThreadDraft) × (slice_get drafts thread ≡ Some draft) × NodesStand old draft
    × (node < length draft.plan.now.nodes.items)
    × (keeps_state (form_in draft.plan.now.nodes.items node) ≡ true)
KeepStands old registers drafts (keep.Side thread site) =
    (draft : ThreadDraft) × (slice_get drafts thread ≡ Some draft) × AreBits old draft.nets.sides.items
KeepStands old registers drafts (keep.Newest thread site) =
    (draft : ThreadDraft) × (slice_get drafts thread ≡ Some draft) × AreBits old draft.newest.items

-- how wide it is
abbrev pub KeepWidth : (registers : List Signal) → List ThreadDraft → Keep → (width : ℕ) → Type 0
KeepWidth registers drafts (keep.Source register) width = width ≡ (signal_at registers register).width
KeepWidth registers drafts (keep.Started thread) width = width ≡ 1
KeepWidth registers drafts (keep.Node thread node) width =
    (draft : ThreadDraft) → slice_get drafts thread ≡ Some draft
    → width ≡ (bit_at draft.states.now.nodes.items node).width
KeepWidth registers drafts (keep.Side thread site) width = width ≡ 1
KeepWidth registers drafts (keep.Newest thread site) width = width ≡ 1

pub record KeptDrawn (old : Module) (registers wires : List Signal) (drafts : List ThreadDraft) (kept : Keep)
    (next : Signal) : Type 0 where
  pub stands : Stands old next
  pub width : KeepWidth registers drafts kept next.width
  pub drawn : NextDrawn old registers wires drafts kept next

-- of each of the first so many registers
abbrev pub NextsDrawn : Module → (registers wires : List Signal) → List ThreadDraft → List Keep → List SvOperand
    → (count : ℕ) → Type 0
NextsDrawn old registers wires drafts keeps nexts count =
    (place : ℕ) → place < count
    → (width : ℕ)
    × KeptDrawn old registers wires drafts (keep_at keeps place)
    record { operand = slice_index_or nexts place no_operand; width = width }

-- The registers of a module keep what they should: those of the source and of the threads are there, with their widths.
pub record IsKept (old : Module) (keeps : List Keep) (registers : List Signal)
    (drafts : List ThreadDraft) : Type 0 where
  pub sources : List CoreReg
  pub count : length keeps ≡ length old.regs
  pub fits : (place : ℕ) → place < length keeps
      → KeepFits old.regs sources (map (λ draft. draft.plan.now) drafts) place (keep_at keeps place)
  pub stand : (register : ℕ) (is : CoreReg) → slice_get sources register ≡ Some is
      → Stands old (signal_at registers register) × ((signal_at registers register).width ≡ is.width)
  pub widths : (thread node : ℕ) (draft : ThreadDraft) → slice_get drafts thread ≡ Some draft
      → node < length draft.plan.now.nodes.items → keeps_state (form_in draft.plan.now.nodes.items node) ≡ true
      → HasWidth (bit_at draft.states.now.nodes.items node).width (form_in draft.plan.now.nodes.items node)
