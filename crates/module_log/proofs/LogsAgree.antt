-- The log of a module that means its process is the log of the source run: the law of `core_term` on re-reading runs, at the
-- inputs that the rows are.
use Rattle.std.proofs.Common.{suc, List, [], ◌∷◌, inl, inr, length, sym, subst, arith}
use Rattle.std.specs.Prelude.{IsTrue}
use Rattle.std.specs.List.{All}
use Rattle.core_term.specs.declared.rows.Row.{Row}
use Rattle.core_term.specs.Fitting.{RowsFit}
use Rattle.core_term.specs.Process.{Port, Process, IsProcess}
use Rattle.core_term.specs.Rows.{row_fits, inputs_of}
use Rattle.core_term.specs.Rules.{KeepsDemands}
use Rattle.core_term.proofs.code_tables.FittingRows.{inputs_fit}
use Rattle.run_laws.proofs.rereading.SameLogs.{same_log}
use Rattle.run_laws.proofs.source_runs.Exists.{is_history}
use Rattle.machine_meaning.specs.Meaning.{MeansReread}
use Rattle.machine_meaning.specs.ModuleRun.{shown_run}
use Rattle.source_log.specs.Log.{registers_on, shown_on}
use Rattle.sv_tree.specs.Module.{Module}
use Rattle.module_log.specs.Agree.{HaveOneLog}
use Rattle.module_log.specs.Log.{module_shown}

rows_fit : (ports : List Port) (rows : List Row) → All (λ row. IsTrue (row_fits ports row)) rows → RowsFit ports rows
rows_fit ports [] all row has = absurd has
rows_fit ports (first ∷ rows) all row (inl same) = subst (λ other. IsTrue (row_fits ports other)) (sym same) (all 0 first (omega arith))
rows_fit ports (first ∷ rows) all row (inr has) = rows_fit ports rows (λ i default inside. all (suc i) default (omega arith)) row has

pub one_log : (p : Process) → IsProcess p → KeepsDemands p → (tree : Module) → MeansReread p tree
    → (rows : List Row) → All (λ row. IsTrue (row_fits p.ports row)) rows
    → HaveOneLog p (shown_on p rows) (module_shown p tree rows) (length rows)
one_log p process keeps tree means rows all =
    let inputs = inputs_of rows in
    let run = means inputs (inputs_fit p rows (rows_fit p.ports rows all)) in
    let same = same_log p process keeps inputs (registers_on p rows) (is_history p inputs) (shown_run p tree inputs run.0 run.1) run.2 in
    record { breach = same.breach; text = same.text }
