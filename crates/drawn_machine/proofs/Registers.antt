-- What the registers of a finished module show: first what they are reset to, and then in each cycle what they took at the end of the cycle
-- before.
use Rattle.std.proofs.Common.{◌≡◌, ℕ, zero, suc, ◌+◌, ◌<◌, true, List, [], ◌∷◌, get_or, length, map, refl, sym, ◌∙◌, subst, arith}
use Rattle.std.specs.Prelude.{slice_index}
use Rattle.core_term.specs.Inputs.{Inputs}
use Rattle.sv_tree.specs.declared.tree.SvReg.{SvReg}
use Rattle.sv_tree.specs.declared.tree.SvRef.TheVariants.{Reg}
use Rattle.sv_tree.specs.declared.tree.SvOperand.{SvOperand}
use Rattle.sv_tree.specs.declared.tree.SvOperand.TheVariants.{Ref}
use Rattle.sv_tree.specs.Module.{Module}
use Rattle.sv_tree.specs.WellFormed.{IsWellFormed, nexts_fit, gives}
use Rattle.sv_tree.specs.Clocked.{registers_at, settled_value}
use Rattle.sv_tree.proofs.WellFormedPoints.{points_of}
use Rattle.std.proofs.lemmas.Bool.{and_parts}
use Rattle.module_nets.specs.declared.signal.Signal.{Signal}
use Rattle.module_nets.specs.Shown.{shown}
use Rattle.machine_parts.specs.Frames.{no_register, register_at}
use Rattle.machine_parts.specs.Modules.{next_at, no_operand}
use Rattle.drawn_machine.proofs.Moments.{at, first_cycles, settled_on}

map_at : (f : SvOperand → ℕ) (nexts : List SvOperand) (k : ℕ) → k < length nexts → slice_index (map f nexts) k ≡ f (get_or nexts k no_operand)
map_at f [] k within = absurd (omega (arith, within))
map_at f (next ∷ nexts) zero within = refl
map_at f (next ∷ nexts) (suc k) within = map_at f nexts k (omega (arith, within))

resets_at : (regs : List SvReg) (k : ℕ) → k < length regs → slice_index (map (λ r. r.reset.value) regs) k ≡ (get_or regs k no_register).reset.value
resets_at [] k within = absurd (omega (arith, within))
resets_at (reg ∷ regs) zero within = refl
resets_at (reg ∷ regs) (suc k) within = resets_at regs k (omega (arith, within))

count_fits : (tree : Module) (regs : List SvReg) (nexts : List SvOperand) → nexts_fit tree regs nexts ≡ true → length nexts ≡ length regs
count_fits tree [] [] fit = refl
count_fits tree [] (next ∷ nexts) fit = absurd cc
count_fits tree (reg ∷ regs) [] fit = absurd cc
count_fits tree (reg ∷ regs) (next ∷ nexts) fit =
    let rest = count_fits tree regs nexts (and_parts (gives tree reg.width next) (nexts_fit tree regs nexts) fit).1 in omega (arith, rest)

-- one next value a register
pub next_count : (tree : Module) → IsWellFormed tree → length tree.nexts ≡ length tree.regs
next_count tree well = count_fits tree tree.regs tree.nexts (points_of tree well).nexts

reset_shown : (tree : Module) (inputs : Inputs) (k : ℕ) → k < length tree.regs → slice_index (registers_at tree inputs 0) k ≡ (register_at tree.regs k).reset.value
unfolding registers_at
reset_shown tree inputs k within = resets_at tree.regs k within

next_shown : (tree : Module) (inputs : Inputs) (k t : ℕ) → k < length tree.nexts
    → slice_index (registers_at tree inputs (suc t)) k ≡ settled_value tree inputs t (registers_at tree inputs t) (get_or tree.nexts k no_operand)
unfolding registers_at
next_shown tree inputs k t within = map_at (settled_value tree inputs t (registers_at tree inputs t)) tree.nexts k within

-- the signal of a register shows its reset first, and then what the register took
pub record Takes (tree : Module) (inputs : Inputs) (place : ℕ) (signal : Signal) : Type 0 where
  pub reset : shown (at tree inputs 0) signal ≡ (register_at tree.regs place).reset.value
  pub takes : (cycle : ℕ) → shown (at tree inputs (cycle + 1)) signal ≡ shown (at tree inputs cycle) (next_at tree place)

pub takes_of : (tree : Module) (inputs : Inputs) (place : ℕ) (signal : Signal) → IsWellFormed tree → place < length tree.regs
    → signal.operand ≡ Ref (Reg place) → Takes tree inputs place signal
takes_of tree inputs place signal well inside is =
    let count = next_count tree well in
    let there : place < length tree.nexts = omega (arith, inside, count) in
    record {
      reset = rw is (reset_shown tree (first_cycles inputs 1) place inside);
      takes = λ cycle.
          let next : cycle + 1 ≡ suc cycle = omega arith in
          let settled = settled_on tree inputs cycle (suc cycle + 1) (get_or tree.nexts place no_operand) in
          subst (λ later. shown (at tree inputs later) signal ≡ shown (at tree inputs cycle) (next_at tree place)) (sym next)
          (rw is (next_shown tree (first_cycles inputs (suc cycle + 1)) place cycle there ∙ settled));
    }
