-- A row of the process for each cycle so far.
use Rattle.std.proofs.Common.{◌≡◌, map}
use Rattle.std.specs.Prelude.{replicate}
use Rattle.generated_file.specs.Rows.{cells_of, row_of}
use Rattle.generated_file.proofs.rows.rows_of.Given as goal

abbrev pub invariant-loop-cycle : goal.invariant-loop-cycle
invariant-loop-cycle l = map cells_of l.rows.items ≡ replicate l._cycle (row_of l.index)
