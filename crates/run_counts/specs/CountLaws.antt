-- That a module that agrees with the source run of its process counts what the source run does.
use Rattle.std.specs.Prelude.{ℕ, ◌≡◌, ◌≤◌, IsTrue, List, length}
use Rattle.std.specs.List.{All}
use Rattle.core_term.specs.declared.rows.Row.{Row}
use Rattle.core_term.specs.Process.{Process}
use Rattle.core_term.specs.Rows.{row_fits}
use Rattle.machine_meaning.specs.Meaning.{Agrees}
use Rattle.run_log.specs.Log.{IsKeptTo}
use Rattle.source_log.specs.Log.{shown_on}
use Rattle.sv_tree.specs.Module.{Module}
use Rattle.module_log.specs.Log.{module_shown}
use Rattle.run_counts.specs.Counts.{counts_of}

-- On rows that fit, for all cycles up to the first in which the source run sees a broken promise.
abbrev pub CountsAgree : Type 0
CountsAgree =
    (p : Process) (tree : Module) → Agrees p tree
    → (rows : List Row) → All (λ row. IsTrue (row_fits p.ports row)) rows
    → (n : ℕ) → n ≤ length rows → IsKeptTo p (shown_on p rows) n
    → counts_of p (module_shown p tree rows) n ≡ counts_of p (shown_on p rows) n
