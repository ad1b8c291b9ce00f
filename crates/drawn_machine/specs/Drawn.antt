-- A module that is drawn for a process: its frame, the signals of registers and ports, and its threads; and what it means.
use Rattle.std.specs.Prelude.{ℕ, ◌≡◌, ◌<◌, true, false, List, length, map, slice_get, Some}
use Rattle.core_term.specs.declared.process.CorePort.{CorePort}
use Rattle.core_term.specs.declared.process.CoreReg.{CoreReg}
use Rattle.core_term.specs.declared.term.CoreTerm.{CoreTerm}
use Rattle.core_term.specs.Acts.{ActOn, SetAt}
use Rattle.core_term.specs.Process.{Process, Thread, IsProcess, IsThread, is_received}
use Rattle.core_term.specs.ProcessView.{process_of}
use Rattle.sv_tree.specs.declared.tree.SvRef.TheVariants.{Data, Valid, Ack, Reg}
use Rattle.sv_tree.specs.declared.tree.SvOperand.TheVariants.{Ref}
use Rattle.sv_tree.specs.Module.{Module}
use Rattle.sv_tree.specs.WellFormed.{IsWellFormed}
use Rattle.machine_meaning.specs.Meaning.{MeansReread}
use Rattle.module_nets.specs.declared.signal.Signal.{Signal}
use Rattle.module_nets.specs.Signals.{signal_at}
use Rattle.machine_parts.specs.declared.frame.Frame.{Frame}
use Rattle.machine_parts.specs.declared.plan.TurnPlan.{TurnPlan}
use Rattle.machine_parts.specs.declared.thread.ThreadDraft.{ThreadDraft}
use Rattle.machine_parts.specs.Parts.{bit_at}
use Rattle.machine_parts.specs.Plans.{IsTurnPlan}
use Rattle.machine_parts.specs.Frames.{AreStates, IsFrameOf}
use Rattle.machine_parts.specs.Threads.{ThreadDrawn}
use Rattle.machine_parts.specs.Drafts.{NewestDrawn}
use Rattle.machine_parts.specs.Modules.{ModuleDrawn}

-- the signals of the registers of the source, of the data of the received ports, and of the wire of each port that ends
-- an act on it
pub record AreSources (p : Process) (registers received wires : List Signal) : Type 0 where
  pub register_count : length registers ≡ length p.registers
  pub registers_are : (register : ℕ) → register < length p.registers
      → (signal_at registers register).operand ≡ Ref (Reg register)
  pub data_are : (port : ℕ) → is_received p port ≡ true → (signal_at received port).operand ≡ Ref (Data port)
  pub valids : (port : ℕ) → port < length p.ports → is_received p port ≡ true
      → (bit_at wires port).operand ≡ Ref (Valid port)
  pub acks : (port : ℕ) → port < length p.ports → is_received p port ≡ false
      → (bit_at wires port).operand ≡ Ref (Ack port)

-- acts name registers and ports that are there
pub record NamesThere (p : Process) : Type 0 where
  pub sets : (number : ℕ) (thread : Thread) (place register : ℕ) → IsThread p.threads number thread
      → SetAt thread.body place register → register < length p.registers
  pub acts : (number : ℕ) (thread : Thread) (place port : ℕ) → IsThread p.threads number thread
      → ActOn thread.body place port → port < length p.ports

-- a thread that is drawn in the module
pub record IsThreadDraft (tree : Module) (frame : Frame) (registers received wires : List Signal) (number : ℕ)
    (thread : Thread) (draft : ThreadDraft) : Type 0 where
  pub plan : IsTurnPlan thread.body draft.plan.now
  pub states : AreStates frame number draft.plan.now draft.states.now
  pub drawn : ThreadDrawn tree registers received wires thread.body draft.plan.now draft.states.now draft.nets
  pub newest : NewestDrawn tree draft.plan.now draft.states.now.newest.items draft.nets.pulses.items draft.newest.items

abbrev pub plan_of : ThreadDraft → TurnPlan
plan_of draft = draft.plan.now

pub record IsDrawn (name : List ℕ) (ports : List CorePort) (registers : List CoreReg) (threads : List CoreTerm)
    (tree : Module) (frame : Frame) (sources received wires : List Signal) (drafts : List ThreadDraft) : Type 0 where
  pub frame_is : IsFrameOf ports registers (map plan_of drafts) frame
  pub ports_are : tree.ports ≡ frame.ports.items
  pub registers_are : tree.regs ≡ frame.regs.items
  pub well_formed : IsWellFormed tree
  pub sources_are : AreSources (process_of name ports registers threads) sources received wires
  pub thread_count : length drafts ≡ length threads
  pub drawn : (number : ℕ) (thread : Thread) (draft : ThreadDraft)
      → IsThread (process_of name ports registers threads).threads number thread
      → slice_get drafts number ≡ Some draft
      → IsThreadDraft tree frame sources received wires number thread draft
  pub gives : ModuleDrawn tree frame.keeps.items ports sources wires drafts

-- Of a process that is sized and owned: such a module means its re-reading run.
abbrev pub DrawnMeansReread : Type 0
DrawnMeansReread =
    (name : List ℕ) (ports : List CorePort) (registers : List CoreReg) (threads : List CoreTerm)
    → IsProcess (process_of name ports registers threads)
    → NamesThere (process_of name ports registers threads)
    → (tree : Module) (frame : Frame) (sources received wires : List Signal) (drafts : List ThreadDraft)
    → IsDrawn name ports registers threads tree frame sources received wires drafts
    → MeansReread (process_of name ports registers threads) tree
