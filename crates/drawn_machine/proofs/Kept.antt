-- What a register of the compiler's own shows: first 0, and then in each cycle what was drawn for what it keeps.
use Rattle.std.proofs.Common.{◌≡◌, ℕ, zero, suc, ◌+◌, ◌-◌, ◌<◌, ◌≤◌, inl, inr, List, [], ◌∷◌, ◌++◌, length, map, sym, ◌∙◌, ap, subst, arith}
use Rattle.std.proofs.lemmas.Bool.{cases_lt}
use Rattle.std.proofs.lemmas.List.{get_or-append_right, length-map, length-append}
use Rattle.core_term.specs.Inputs.{Inputs}
use Rattle.core_term.specs.declared.process.CorePort.{CorePort}
use Rattle.core_term.specs.declared.process.CoreReg.{CoreReg}
use Rattle.sv_tree.specs.Module.{Module}
use Rattle.sv_tree.specs.WellFormed.{IsWellFormed}
use Rattle.module_nets.specs.declared.signal.Signal.{Signal}
use Rattle.module_nets.specs.Shown.{shown}
use Rattle.machine_parts.specs.declared.frame.Frame.{Frame}
use Rattle.machine_parts.specs.declared.frame.Keep.{Keep}
use Rattle.machine_parts.specs.declared.frame.Keep.TheVariants as keep
use Rattle.machine_parts.specs.declared.plan.TurnPlan.{TurnPlan}
use Rattle.machine_parts.specs.declared.thread.ThreadDraft.{ThreadDraft}
use Rattle.machine_parts.specs.Frames.{HasRegister, IsFrameOf, keep_at, no_register, register_at, source_keeps, source_of}
use Rattle.machine_parts.specs.Modules.{ModuleDrawn, NextDrawn, next_at}
use Rattle.drawn_machine.proofs.Moments.{at}
use Rattle.drawn_machine.proofs.Registers.{takes_of}

-- the first registers keep those of the source
sources_first : (first place : ℕ) (registers : List CoreReg) (rest : List Keep) → place < length registers
    → keep_at (source_keeps first registers ++ rest) place ≡ keep.Source (first + place)
sources_first first place [] rest inside = absurd (omega (arith, inside))
sources_first first zero (register ∷ registers) rest inside = ap keep.Source (omega arith)
sources_first first (suc place) (register ∷ registers) rest inside =
    sources_first (suc first) place registers rest (omega (arith, inside)) ∙ ap keep.Source (omega arith)

abbrev pub IsState : Keep → Type 0
IsState (keep.Source register) = ⊥
IsState (keep.Started thread) = Unit {0}
IsState (keep.Node thread node) = Unit {0}
IsState (keep.Side thread site) = Unit {0}
IsState (keep.Newest thread site) = Unit {0}

-- a register of the compiler's own, by what it keeps
pub record Kept (tree : Module) (inputs : Inputs) (sources wires : List Signal) (drafts : List ThreadDraft) (kept : Keep) (signal : Signal) : Type 0 where
  pub next : Signal
  pub reset : shown (at tree inputs 0) signal ≡ 0
  pub takes : (cycle : ℕ) → shown (at tree inputs (cycle + 1)) signal ≡ shown (at tree inputs cycle) next
  pub drawn : NextDrawn tree sources wires drafts kept next

module _ (ports : List CorePort) (registers : List CoreReg) (plans : List TurnPlan) (frame : Frame) (is : IsFrameOf ports registers plans frame)
    (tree : Module) (well : IsWellFormed tree) (regs_are : tree.regs ≡ frame.regs.items)
    (sources wires : List Signal) (drafts : List ThreadDraft) (gives : ModuleDrawn tree frame.keeps.items ports sources wires drafts) where
  pub source_kept : (place : ℕ) → place < length registers → keep_at frame.keeps.items place ≡ keep.Source place
  source_kept place inside = subst (λ keeps. keep_at keeps place ≡ keep.Source place) (sym is.keeps_are) (sources_first 0 place registers _ inside ∙ ap keep.Source (omega arith))

  not_source : (place : ℕ) (kept : Keep) → IsState kept → keep_at frame.keeps.items place ≡ kept → place < length registers → ⊥
  not_source place kept state same inside = subst IsState (sym same ∙ source_kept place inside) state

  reset_to_none : (place : ℕ) → place < length frame.regs.items → length registers ≤ place → (register_at tree.regs place).reset.value ≡ 0
  reset_to_none place inside past =
      let count = length-map registers source_of in
      let all : length frame.regs.items ≡ length registers + length is.states = ap (λ regs. length regs) is.registers_are ∙ length-append (map source_of registers) is.states ∙ ap (λ n. n + length is.states) count in
      let at_state : register_at frame.regs.items place ≡ register_at is.states (place - length registers) =
      ap (λ regs. register_at regs place) is.registers_are ∙ get_or-append_right (map source_of registers) is.states (length registers) place no_register count past in
      ap (λ regs. (register_at regs place).reset.value) regs_are
      ∙ (ap (λ register. register.reset.value) at_state ∙ is.resets (place - length registers) (omega (arith, inside, all, past)))

  pub kept_of : (inputs : Inputs) (kept : Keep) → IsState kept → (signal : Signal) → HasRegister frame kept signal → Kept tree inputs sources wires drafts kept signal
  kept_of inputs kept state signal has =
      let there : has.place < length tree.regs = subst (λ regs. has.place < length regs) (sym regs_are) has.inside in
      let takes = takes_of tree inputs has.place signal well there has.operand in
      let count = is.keep_count in
      let in_keeps : has.place < length frame.keeps.items = omega (arith, count, has.inside) in
      let past : length registers ≤ has.place = elim (cases_lt has.place (length registers)) [
        | inl inside ↦ absurd (not_source has.place kept state has.keeps inside)
        | inr past ↦ past
      ] in
      record {
        next = next_at tree has.place;
        reset = takes.reset ∙ reset_to_none has.place has.inside past;
        takes = takes.takes;
        drawn = subst (λ kept. NextDrawn tree sources wires drafts kept (next_at tree has.place)) has.keeps (gives.nexts has.place in_keeps);
      }
