-- The rows that a process of the generated file is run on.
--
-- README.md, "The rows". In each of 100 cycles a number is offered to process I, I + 1, and what it sends is taken.
use Rattle.std.specs.Prelude.{ℕ, ◌+◌, true, List, [], ◌∷◌, replicate}
use Rattle.core_term.specs.declared.rows.InCell.{InCell}
use Rattle.core_term.specs.declared.rows.InCell.TheVariants.{Received, Sent}
use Rattle.core_term.specs.declared.rows.Row.{Row}

-- `1:J 1`, where J is I + 1
abbrev pub row_of : ℕ → List InCell
row_of index = Received true (record { width = 8; value = index + 1 }) ∷ Sent true ∷ []

abbrev pub cycles : ℕ
cycles = 100

abbrev pub rows_of : ℕ → List (List InCell)
rows_of index = replicate cycles (row_of index)

-- the cells of a row of the code
abbrev pub cells_of : Row → List InCell
cells_of row = row.cells.items
