-- What is counted of the generated file of a number: the exchanges and the registers of the source run of each of its
-- processes on its rows, summed over the processes.
use Rattle.std.specs.Prelude.{ℕ, ◌≡◌, ◌+◌, List, [], ◌∷◌, map}
use Rattle.std.specs.List.{sum_by}
use Rattle.anvil_tree.specs.Tree.{File}
use Rattle.core_term.specs.declared.rows.Row.{Row}
use Rattle.core_term.specs.Process.{Process}
use Rattle.source_log.specs.Log.{shown_on}
use Rattle.run_counts.specs.declared.counts.Counts.{Counts}
use Rattle.run_counts.specs.Counts.{counts_of}
use Rattle.generated_file.specs.Generated.{generated}
use Rattle.generated_file.specs.Rows.{cells_of, cycles, rows_of}
use Rattle.checked_files.specs.Check.{IsAcceptedFile, processes_in}

-- the counts of the source run of a process on the rows of the process of the number
pub record IsCounted (index : ℕ) (p : Process) (counts : Counts) : Type 0 where
  pub rows : List Row
  pub are : map cells_of rows ≡ rows_of index
  pub is : counts ≡ counts_of p (shown_on p rows) cycles

-- of processes one after the other, with the numbers from `index` on
abbrev pub AreCounted : (index : ℕ) → List Process → List Counts → Type 0
AreCounted index [] [] = Unit {0}
AreCounted index [] (counts ∷ more) = ⊥
AreCounted index (p ∷ processes) [] = ⊥
AreCounted index (p ∷ processes) (counts ∷ more) = IsCounted index p counts × AreCounted (index + 1) processes more

-- the sums of counts
abbrev pub exchanges_of : Counts → ℕ
exchanges_of counts = counts.exchanges

abbrev pub registers_of : Counts → ℕ
registers_of counts = counts.registers

abbrev pub total : List Counts → Counts
total each = record { exchanges = sum_by exchanges_of each; registers = sum_by registers_of each }

-- the sums over processes, the first of the number 0
pub record IsTotalOf (processes : List Process) (totals : Counts) : Type 0 where
  pub each : List Counts
  pub counted : AreCounted 0 processes each
  pub is : totals ≡ total each

-- over those of the generated file, which is accepted
pub record IsTotal (count : ℕ) (totals : Counts) : Type 0 where
  pub file : File
  pub accepted : IsAcceptedFile (generated count) file
  pub sums : IsTotalOf (processes_in file) totals
