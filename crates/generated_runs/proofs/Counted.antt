-- The counts of a module of a process on its rows are those of the source run.
--
-- The rows fit the ports of a generated process and break no promise, so the law on counts holds of all of them.
use Rattle.std.proofs.Common.{◌≡◌, ◌∙◌, ◌<◌, ℕ, List, length, map, refl, ap, sym, subst, arith}
use Rattle.std.specs.Prelude.{IsTrue}
use Rattle.std.specs.List.{All}
use Rattle.core_term.specs.declared.rows.Row.{Row}
use Rattle.core_term.specs.Process.{Port, Process}
use Rattle.core_term.specs.Rows.{cells_fit, row_fits}
use Rattle.machine_meaning.specs.Meaning.{Agrees}
use Rattle.module_log.specs.Log.{module_shown}
use Rattle.run_counts.specs.declared.counts.Counts.{Counts}
use Rattle.run_counts.specs.Counts.{counts_of}
use Rattle.run_counts.proofs.Same.{counts_agree}
use Rattle.sv_tree.specs.Module.{Module}
use Rattle.generated_file.specs.Rows.{cells_of, row_of, rows_of}
use Rattle.generated_file.proofs.RowsFit.{row_fits_ports, rows_count, rows_fit}
use Rattle.generated_tree.specs.Ports.{generated_ports, req, res}
use Rattle.generated_runs.specs.Totals.{IsCounted}
use Rattle.generated_runs.proofs.Kept.{kept}

pub fit : (p : Process) (index : ℕ) → p.ports ≡ generated_ports → index < 64 → (rows : List Row) → map cells_of rows ≡ rows_of index
    → All (λ row. IsTrue (row_fits p.ports row)) rows
fit p index ports few rows are =
    rows_fit p.ports index rows are (subst (λ (some : List Port). IsTrue (cells_fit some (row_of index))) (sym ports) (row_fits_ports req res index refl refl refl few))

-- the code knows the rows behind a reference
pub counted : (p : Process) (tree : Module) → Agrees p tree → (index : ℕ) → p.ports ≡ generated_ports → index < 64
    → (rows : List Row) → map cells_of rows ≡ rows_of index → (there : List Row) → there ≡ rows
    → (counts : Counts) → counts ≡ counts_of p (module_shown p tree there) (length there) → IsCounted index p counts
counted p tree agrees index ports few rows are there same counts is =
    let many = rows_count index rows are in
    record {
      rows = rows;
      are = are;
      is = is ∙ (ap (λ some. counts_of p (module_shown p tree some) (length some)) same
          ∙ (ap (counts_of p (module_shown p tree rows)) many
          ∙ counts_agree p tree agrees rows (fit p index ports few rows are) 100 (omega (arith, many)) (kept p index rows are)));
    }
