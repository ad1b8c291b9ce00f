-- That agreeing runs count alike.
--
-- The claim: where `valid`, `ack` and the registers of two runs are the same in each of the first cycles, so are their counts.
-- The argument goes along the cycles, and in each along the ports and the registers.
use Rattle.std.proofs.Common.{◌≡◌, ◌<◌, ◌≤◌, ◌+◌, ◌∷◌, ℕ, zero, suc, List, [], inl, inr, length, refl, ap, sym, subst, arith}
use Rattle.std.specs.Prelude.{IsTrue, ◌&&◌}
use Rattle.std.specs.List.{All, sum_by}
use Rattle.anvil_bits.specs.Operators.{truth}
use Rattle.core_term.specs.declared.rows.Row.{Row}
use Rattle.core_term.specs.Agreement.{AgreesAt}
use Rattle.core_term.specs.Fitting.{RowsFit}
use Rattle.core_term.specs.Process.{Port, Process, Register}
use Rattle.core_term.specs.Rows.{row_fits, inputs_of, number_of, registers_shown}
use Rattle.core_term.proofs.code_tables.FittingRows.{inputs_fit}
use Rattle.run_laws.proofs.source_runs.Exists.{is_history}
use Rattle.machine_meaning.specs.Meaning.{Agrees}
use Rattle.run_log.specs.Log.{IsKeptTo}
use Rattle.run_log.specs.Shown.{Shown}
use Rattle.source_log.specs.Log.{registers_on, shown_on}
use Rattle.sv_tree.specs.Module.{Module}
use Rattle.module_log.specs.Log.{module_shown}
use Rattle.run_counts.specs.Counts.{counts_of, exchanges_at, exchanges_in, registers_last, shown_value}

rows_fit : (ports : List Port) (rows : List Row) → All (λ row. IsTrue (row_fits ports row)) rows → RowsFit ports rows
rows_fit ports [] all row has = absurd has
rows_fit ports (first ∷ rows) all row (inl same) = subst (λ other. IsTrue (row_fits ports other)) (sym same) (all 0 first (omega arith))
rows_fit ports (first ∷ rows) all row (inr has) = rows_fit ports rows (λ i default inside. all (suc i) default (omega arith)) row has

-- Two runs that agree in each of the first n cycles.

module _ (p : Process) (one other : Shown) where
  abbrev AgreeAt : ℕ → Type 0
  AgreeAt t = AgreesAt p one.wires other.wires one.registers other.registers t

  same_exchanges : (t : ℕ) → AgreeAt t → (m : ℕ) (ports : List Port) → exchanges_at other t m ports ≡ exchanges_at one t m ports
  same_exchanges t agree m [] = refl
  same_exchanges t agree m (port ∷ ports) =
      let rest = same_exchanges t agree (m + 1) ports in
      let valid = agree.valid m in
      let ack = agree.ack m in
      λ i. truth (sym valid i && sym ack i) + rest i

  same_registers : (t : ℕ) → AgreeAt t → (r : ℕ) (registers : List Register)
      → registers_shown other.registers t r registers ≡ registers_shown one.registers t r registers
  same_registers t agree r [] = refl
  same_registers t agree r (register ∷ registers) =
      let rest = same_registers t agree (r + 1) registers in
      let value = agree.registers_agree r in
      λ i. number_of register.width (sym value i) ∷ rest i

  exchanges_alike : (n : ℕ) → ((t : ℕ) → t < n → AgreeAt t) → exchanges_in p other n ≡ exchanges_in p one n
  exchanges_alike zero agree = refl
  exchanges_alike (suc n) agree =
      let before = exchanges_alike n (λ t less. agree t (omega (arith, less))) in
      let here = same_exchanges n (agree n (omega arith)) 0 p.ports in
      λ i. before i + here i

  registers_alike : (n : ℕ) → ((t : ℕ) → t < n → AgreeAt t) → registers_last p other n ≡ registers_last p one n
  registers_alike zero agree = refl
  registers_alike (suc t) agree = ap (sum_by shown_value) (same_registers t (agree t (omega arith)) 0 p.registers)

  pub counts_alike : (n : ℕ) → ((t : ℕ) → t < n → AgreeAt t) → counts_of p other n ≡ counts_of p one n
  counts_alike n agree =
      let exchanges = exchanges_alike n agree in
      let registers = registers_alike n agree in
      λ i. record { exchanges = exchanges i; registers = registers i }

pub counts_agree : (p : Process) (tree : Module) → Agrees p tree
    → (rows : List Row) → All (λ row. IsTrue (row_fits p.ports row)) rows
    → (n : ℕ) → n ≤ length rows → IsKeptTo p (shown_on p rows) n
    → counts_of p (module_shown p tree rows) n ≡ counts_of p (shown_on p rows) n
counts_agree p tree agrees rows all n within kept =
    let inputs = inputs_of rows in
    counts_alike p (shown_on p rows) (module_shown p tree rows) n
    (λ t less. agrees inputs (inputs_fit p rows (rows_fit p.ports rows all)) (registers_on p rows) (is_history p inputs) t (omega (arith, within, less)) (kept t less))
