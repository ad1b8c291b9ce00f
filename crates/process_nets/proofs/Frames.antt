-- For who finishes a module: its registers keep what they should where they are those of a frame, and what stands of a thread
-- stands in each netlist that extends the one in which it was drawn.
use Rattle.std.proofs.Common.{◌≡◌, ℕ, List, length, map, Some, refl, sym, ◌∙◌, ap, subst}
use Rattle.std.specs.Prelude.{slice_get}
use Rattle.std.proofs.lemmas.Option.{slice_get-map}
use Rattle.core_term.specs.declared.process.CorePort.{CorePort}
use Rattle.core_term.specs.declared.process.CoreReg.{CoreReg}
use Rattle.sv_tree.specs.declared.tree.SvReg.{SvReg}
use Rattle.sv_tree.specs.Module.{Module}
use Rattle.module_nets.specs.declared.signal.Signal.{Signal}
use Rattle.module_nets.specs.Netlist.{Extends, Stands}
use Rattle.module_nets.specs.Signals.{signal_at}
use Rattle.module_nets.proofs.Growing.{of_later, stands_later}
use Rattle.module_nets.proofs.BitsTold.{bit_later}
use Rattle.pulse_nets.specs.declared.forms.Pulse.{Pulse}
use Rattle.pulse_nets.specs.Pulses.{pulse_at}
use Rattle.machine_parts.specs.declared.frame.Frame.{Frame}
use Rattle.machine_parts.specs.declared.frame.ThreadStates.{ThreadStates}
use Rattle.machine_parts.specs.declared.plan.TurnPlan.{TurnPlan}
use Rattle.machine_parts.specs.declared.thread.ThreadDraft.{ThreadDraft}
use Rattle.machine_parts.specs.Parts.{bit_at, form_in}
use Rattle.machine_parts.specs.Drafts.{NewestDrawn}
use Rattle.machine_parts.specs.Frames.{IsFrameOf, KeepFits, keep_at}
use Rattle.machine_parts.specs.Modules.{DraftStands}
use Rattle.process_nets.specs.Kept.{IsKept}
use Rattle.process_nets.proofs.Bits.{are_bits_later}
use Rattle.process_nets.proofs.NodeStates.{state_later}

pub kept_of_frame : (old : Module) (frame : Frame) (ports : List CorePort) (sources : List CoreReg) (registers : List Signal) (drafts : List ThreadDraft)
    → IsFrameOf ports sources (map (λ draft. draft.plan.now) drafts) frame → old.regs ≡ frame.regs.items → frame.states.items ≡ map (λ draft. draft.states.now) drafts
    → ((register : ℕ) (is : CoreReg) → slice_get sources register ≡ Some is → Stands old (signal_at registers register) × ((signal_at registers register).width ≡ is.width))
    → IsKept old frame.keeps.items registers drafts
kept_of_frame old frame ports sources registers drafts is regs_are states_are stand = record {
  sources = sources;
  count = is.keep_count ∙ sym (ap (λ (regs : List SvReg). length regs) regs_are);
  fits = λ place within.
      subst (λ regs. KeepFits regs sources (map (λ draft. draft.plan.now) drafts) place (keep_at frame.keeps.items place)) (sym regs_are) (is.kept place within);
  stand = stand;
  widths = λ thread node draft get within keeps.
      ((is.threads thread draft.plan.now draft.states.now
      (slice_get-map (λ (draft : ThreadDraft). draft.plan.now) drafts thread ∙ rw get refl)
      (ap (λ (list : List ThreadStates). slice_get list thread) states_are ∙ (slice_get-map (λ (draft : ThreadDraft). draft.states.now) drafts thread ∙ rw get refl))).nodes node within keeps).1;
}

pub draft_later : (old new : Module) (registers : List Signal) (ports : List CorePort) (wires : List Signal) (draft : ThreadDraft)
    → Extends old new → DraftStands old registers ports wires draft → DraftStands new registers ports wires draft
draft_later old new registers ports wires draft e stand = record {
  pulse_count = stand.pulse_count;
  pulses = λ node within.
      let both = stand.pulses node within in
      (bit_later old new (pulse_at draft.nets.pulses.items node).pulse e both.0, bit_later old new (pulse_at draft.nets.pulses.items node).known e both.1);
  earlier = stand.earlier;
  states = λ node within. state_later old new e (bit_at draft.states.now.nodes.items node) (form_in draft.plan.now.nodes.items node) (stand.states node within);
  begin_count = stand.begin_count;
  end_count = stand.end_count;
  begins = stand.begins;
  ends = stand.ends;
  value_count = stand.value_count;
  sets = λ site register is.
      let value = stand.sets site register is in (stands_later old new (signal_at draft.nets.values.items site) e value.0, value.1);
  sends = λ site port port_is is get.
      let value = stand.sends site port port_is is get in (stands_later old new (signal_at draft.nets.values.items site) e value.0, value.1);
  side_count = stand.side_count;
  side_bits = are_bits_later old new draft.nets.sides.items e stand.side_bits;
  newest_count = stand.newest_count;
  newest_bits = are_bits_later old new draft.newest.items e stand.newest_bits;
  decisions = are_bits_later old new draft.nets.decisions.items e stand.decisions;
}

pub newest_drawn_later : (old new : Module) (plan : TurnPlan) (kept : List Signal) (pulses : List Pulse) (newest : List Signal)
    → Extends old new → NewestDrawn old plan kept pulses newest → NewestDrawn new plan kept pulses newest
newest_drawn_later old new plan kept pulses newest e drawn = record {
  count = drawn.count;
  bits = λ site within. bit_later old new (bit_at newest site) e (drawn.bits site within);
  sends = λ site port is now of. drawn.sends site port is now (of_later old new now e of);
  others = drawn.others;
}
