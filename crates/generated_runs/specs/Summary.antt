-- The summary of the generated file of a number: one line.
use Rattle.std.specs.Prelude.{ℕ, ◌≡◌, List, ◌++◌, codes, length}
use Rattle.std.specs.Fmt.{decimal}
use Rattle.run_counts.specs.declared.counts.Counts.{Counts}
use Rattle.generated_file.specs.Generated.{generated}
use Rattle.generated_file.specs.Rows.{cycles}
use Rattle.generated_runs.specs.declared.summary.Summary.{Summary}
use Rattle.generated_runs.specs.Totals.{IsTotal}

-- `processes=N bytes=B cycles=100 exchanges=X registers=S`, in decimal
abbrev pub summary_line : (processes bytes : ℕ) → Counts → List ℕ
summary_line processes bytes totals =
    codes "processes="
    ++ (decimal processes
    ++ (codes " bytes="
    ++ (decimal bytes
    ++ (codes " cycles="
    ++ (decimal cycles
    ++ (codes " exchanges="
    ++ (decimal totals.exchanges ++ (codes " registers=" ++ (decimal totals.registers ++ codes "\n")))))))))

-- the line: how many processes, the bytes of the file, and what is counted of it
pub record IsSummary (count : ℕ) (text : List ℕ) : Type 0 where
  pub totals : Counts
  pub counted : IsTotal count totals
  pub is : text ≡ summary_line count (length (generated count)) totals

-- the same as the code has it before it is put
pub record IsSummed (count : ℕ) (summary : Summary) : Type 0 where
  pub processes : summary.processes ≡ count
  pub bytes : summary.bytes ≡ length (generated count)
  pub counted : IsTotal count summary.totals
