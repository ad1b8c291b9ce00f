-- What a simulation keeps of a thread, and what stands of it.
use Rattle.std.specs.Prelude.{ℕ, ◌≡◌, ◌<◌, Bool, List, [], ◌∷◌, length, map, slice_index_or}
use Rattle.anvil_bits.specs.Number.{Number}
use Rattle.core_term.specs.declared.process.CorePort.{CorePort}
use Rattle.core_term.specs.declared.process.CoreReg.{CoreReg}
use Rattle.core_term.specs.declared.rows.InCell.{InCell}
use Rattle.core_term.specs.declared.term.CoreTerm.{CoreTerm}
use Rattle.core_term.specs.Process.{Thread, nth_port, nth_register}
use Rattle.core_term.specs.ProcessView.{port_of, register_of}
use Rattle.core_term.specs.Widths.{Widths}
use Rattle.sim_laws.specs.declared.act_state.ActState.{ActState}
use Rattle.sim_laws.specs.Typed.{term_in, Typed, AreWide}
use Rattle.sim_laws.specs.Passes.{thread_step}

-- the widths of the variables, by site, and the acts
pub record Kept : Type 0 where
  pub widths : List ℕ
  pub acts : List ActState

abbrev pub widths_by : List CorePort → List CoreReg → List ℕ → Widths
widths_by ports regs list = record {
  registers = λ r. (nth_register (map register_of regs) r).width;
  ports = λ m. (nth_port (map port_of ports) m).width;
  variables = λ y. slice_index_or list y 0;
}

-- the body goes with the widths, and what is kept has them
abbrev pub IsReady : List CorePort → List CoreReg → (registers : ℕ) → CoreTerm → Kept → Type 0
IsReady ports regs count body kept =
    Typed (length kept.widths) count (map port_of ports) (widths_by ports regs kept.widths) (term_in (widths_by ports regs kept.widths) body)
    × AreWide kept.widths (widths_by ports regs kept.widths) kept.acts

-- one cycle on
abbrev pub stepped : List CorePort → List CoreReg → List InCell → List Number → CoreTerm → Bool → Kept → Kept
stepped ports regs cells numbers body begun kept =
    record { widths = kept.widths; acts = thread_step cells numbers (term_in (widths_by ports regs kept.widths) body) begun kept.acts }

abbrev pub no_thread : Kept
no_thread = record { widths = []; acts = [] }

-- each body goes with what is kept of its thread
abbrev pub AllReady : List CorePort → List CoreReg → (registers : ℕ) → List CoreTerm → List Kept → Type 0
AllReady ports regs count [] [] = 0 < 1
AllReady ports regs count [] (kept ∷ rest) = 1 < 0
AllReady ports regs count (body ∷ bodies) [] = 1 < 0
AllReady ports regs count (body ∷ bodies) (kept ∷ rest) = IsReady ports regs count body kept × AllReady ports regs count bodies rest

-- all threads one cycle on
abbrev pub all_stepped : List CorePort → List CoreReg → List InCell → List Number → Bool → List CoreTerm → List Kept → List Kept
all_stepped ports regs cells numbers begun [] kept = []
all_stepped ports regs cells numbers begun (body ∷ bodies) [] = []
all_stepped ports regs cells numbers begun (body ∷ bodies) (kept ∷ rest) = stepped ports regs cells numbers body begun kept ∷ all_stepped ports regs cells numbers begun bodies rest

-- each body of the code, read with the widths that are kept, is that of its thread
abbrev pub SameBodies : List CorePort → List CoreReg → List Thread → List CoreTerm → List Kept → Type 0
SameBodies ports regs [] [] [] = 0 < 1
SameBodies ports regs (thread ∷ threads) (body ∷ bodies) (kept ∷ rest) = (thread.body ≡ term_in (widths_by ports regs kept.widths) body) × SameBodies ports regs threads bodies rest
SameBodies ports regs threads bodies rest = 1 < 0
