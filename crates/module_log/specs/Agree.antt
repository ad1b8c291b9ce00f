-- That the log of a module that means its process is the log of the source run.
use Rattle.std.specs.Prelude.{ℕ, ◌≡◌, ◌≤◌, IsTrue, List, length}
use Rattle.std.specs.List.{All}
use Rattle.core_term.specs.declared.rows.Row.{Row}
use Rattle.core_term.specs.Breach.{IsFirstBreach}
use Rattle.core_term.specs.Process.{Process, IsProcess}
use Rattle.core_term.specs.Rows.{row_fits}
use Rattle.core_term.specs.Rules.{KeepsDemands}
use Rattle.machine_meaning.specs.Meaning.{MeansReread}
use Rattle.run_log.specs.Log.{IsKeptTo, log_to}
use Rattle.run_log.specs.Shown.{Shown}
use Rattle.source_log.specs.Log.{shown_on}
use Rattle.sv_tree.specs.Module.{Module}
use Rattle.module_log.specs.Log.{module_shown}

-- one first broken promise, if any, and one text up to each cycle before which the promises are kept
pub record HaveOneLog (p : Process) (shown other : Shown) (count : ℕ) : Type 0 where
  pub breach : (cycle port : ℕ)
      → (IsFirstBreach p shown.wires cycle port → IsFirstBreach p other.wires cycle port)
      × (IsFirstBreach p other.wires cycle port → IsFirstBreach p shown.wires cycle port)
  pub text : (n : ℕ) → n ≤ count → IsKeptTo p shown n → log_to p shown n ≡ log_to p other n

-- Of a process that keeps the timing rules, on rows that fit.
abbrev pub ModuleLogsAgree : Type 0
ModuleLogsAgree =
    (p : Process) → IsProcess p → KeepsDemands p → (tree : Module) → MeansReread p tree
    → (rows : List Row) → All (λ row. IsTrue (row_fits p.ports row)) rows
    → HaveOneLog p (shown_on p rows) (module_shown p tree rows) (length rows)
