-- The parts of a module go together: what is drawn of each thread in a netlist is what the registers and ports are given from, and a module
-- that ends the netlist is one that is drawn for the process.
use Rattle.std.proofs.Common.{◌≡◌, ℕ, zero, suc, ◌<◌, IsTrue, List, [], ◌∷◌, length, map, refl, ◌∙◌, arith}
use Rattle.std.specs.Prelude.{slice_get, Some}
use Rattle.core_term.specs.declared.process.CorePort.{CorePort}
use Rattle.core_term.specs.declared.process.CoreReg.{CoreReg}
use Rattle.core_term.specs.declared.term.CoreTerm.{CoreTerm}
use Rattle.core_term.specs.Process.{Process, Thread, IsProcess, IsThread}
use Rattle.core_term.specs.ProcessView.{process_of, thread_of, widths_of}
use Rattle.core_term.specs.Sized.{is_sized}
use Rattle.core_term.specs.Widths.{Widths}
use Rattle.sv_tree.specs.Module.{Module}
use Rattle.sv_tree.specs.WellFormed.{IsWellFormed}
use Rattle.module_nets.specs.declared.signal.Signal.{Signal}
use Rattle.module_nets.specs.Netlist.{Extends}
use Rattle.machine_meaning.specs.Meaning.{MeansReread}
use Rattle.source_signals.specs.Sources.{AreWide}
use Rattle.machine_parts.specs.declared.frame.Frame.{Frame}
use Rattle.machine_parts.specs.declared.thread.ThreadDraft.{ThreadDraft}
use Rattle.machine_parts.specs.Frames.{IsFrameOf}
use Rattle.machine_parts.specs.Modules.{DraftStands, ModuleDrawn}
use Rattle.turn_machine.specs.OneTurn.{IsTurnBody}
use Rattle.drawn_machine.specs.Drawn.{IsThreadDraft, plan_of}
use Rattle.drawn_machine.proofs.DraftFit.{draft_stands}
use Rattle.drawn_machine.proofs.Later.{newest_later, thread_later}
use Rattle.drawn_machine.proofs.Machine.{means_reread}
use Rattle.drawn_machine.proofs.Named.{body_fits, names_there}
use Rattle.drawn_machine.proofs.Placed.{states_are}
use Rattle.drawn_machine.proofs.Sourced.{are_sources, registers_wide, sources, widths_same, wires, words}

-- a thread of the process is that of a body, by its number
pub thread_at : (base : Widths) (bodies : List CoreTerm) (number : ℕ) → number < length bodies → (core : CoreTerm) × (slice_get bodies number ≡ Some core) × IsThread (map (thread_of base) bodies) number (thread_of base core)
thread_at base [] number inside = absurd (omega (arith, inside))
thread_at base (body ∷ bodies) zero inside = (body, refl, refl)
thread_at base (body ∷ bodies) (suc number) inside = thread_at base bodies number (omega (arith, inside))

get_inside : {A : Type 0} (items : List A) (place : ℕ) (item : A) → slice_get items place ≡ Some item → place < length items
get_inside [] place item there = absurd cc
get_inside (first ∷ items) zero item there = omega arith
get_inside (first ∷ items) (suc place) item there = let rest = get_inside items place item there in omega (arith, rest)

-- what is drawn of a thread stays drawn
pub draft_later : (old new : Module) → Extends old new → (frame : Frame) (sources received wires : List Signal) (number : ℕ) (thread : Thread) (draft : ThreadDraft)
    → IsThreadDraft old frame sources received wires number thread draft → IsThreadDraft new frame sources received wires number thread draft
draft_later old new e frame sources received wires number thread draft is = record {
  plan = is.plan;
  states = is.states;
  drawn = thread_later old new e sources received wires thread.body draft.plan.now draft.states.now draft.nets is.drawn;
  newest = newest_later old new e draft.plan.now draft.states.now.newest.items draft.nets.pulses.items draft.newest.items is.newest;
}

module _ (name : List ℕ) (ports : List CorePort) (registers : List CoreReg) (threads : List CoreTerm)
    (process : IsProcess (process_of name ports registers threads)) (sized : IsTrue (is_sized name ports registers threads))
    (frame : Frame) (drafts : List ThreadDraft) (is_frame : IsFrameOf ports registers (map plan_of drafts) frame) (wide : AreWide ports)
    (old : Module) (ports_are : old.ports ≡ frame.ports.items) (regs_are : old.regs ≡ frame.regs.items) (count : length drafts ≡ length threads)
    (drawn : (number : ℕ) (thread : Thread) (draft : ThreadDraft) → IsThread (process_of name ports registers threads).threads number thread → slice_get drafts number ≡ Some draft
    → IsThreadDraft old frame (sources name ports registers threads) (words name ports registers threads) (wires name ports registers threads) number thread draft) where
  abbrev p : Process
  p = process_of name ports registers threads

  body_is : (number : ℕ) (thread : Thread) → IsThread p.threads number thread → IsTurnBody thread.body
  body_is number thread is = record { numbered = process.numbered number thread is; tail = process.takes_time number thread is; cycles = process.cycles number thread is }

  -- registers and ports can be given from each thread
  pub drafts_stand : (number : ℕ) (draft : ThreadDraft) → slice_get drafts number ≡ Some draft
      → DraftStands old (sources name ports registers threads) ports (wires name ports registers threads) draft
  drafts_stand number draft here =
      let inside = get_inside drafts number draft here in
      let at : (core : CoreTerm) × (slice_get threads number ≡ Some core) × IsThread p.threads number (thread_of (widths_of p.ports p.registers) core) = thread_at (widths_of p.ports p.registers) threads number (omega (arith, inside, count)) in
      let thread = thread_of (widths_of p.ports p.registers) at.0 in
      let is = drawn number thread draft at.2 here in
      draft_stands p ports refl old (sources name ports registers threads) (words name ports registers threads) (wires name ports registers threads) (widths_of p.ports p.registers)
      (widths_same name ports registers threads) (registers_wide name ports registers threads) thread.body (body_is number thread at.2)
      (body_fits name ports registers threads sized number thread at.2) draft is.plan
      (states_are frame is_frame.is_frame old regs_are number draft.plan.now draft.states.now is.states) is.drawn is.newest

  -- the module that ends the netlist means the re-reading run
  pub ended_means : (tree : Module) → Extends old tree → IsWellFormed tree
      → ModuleDrawn tree frame.keeps.items ports (sources name ports registers threads) (wires name ports registers threads) drafts
      → MeansReread p tree
  ended_means tree e well gives =
      means_reread name ports registers threads process (names_there name ports registers threads sized) tree frame (sources name ports registers threads) (words name ports registers threads) (wires name ports registers threads) drafts
      record {
        frame_is = is_frame;
        ports_are = e.ports ∙ ports_are;
        registers_are = e.regs ∙ regs_are;
        well_formed = well;
        sources_are = are_sources name ports registers threads;
        thread_count = count;
        drawn = λ number thread draft is_thread here. draft_later old tree e frame _ _ _ number thread draft (drawn number thread draft is_thread here);
        gives = gives;
      }
