-- Input lists and rows whose data fit the widths of the ports.
use Rattle.std.specs.Prelude.{ℕ, ◌≡◌, ◌<◌, ◌^◌, true, List, IsTrue}
use Rattle.core_term.specs.declared.rows.Row.{Row}
use Rattle.core_term.specs.Lists.{Has}
use Rattle.core_term.specs.Inputs.{Inputs}
use Rattle.core_term.specs.Process.{Port, Process, nth_port, is_received}
use Rattle.core_term.specs.Rows.{row_fits, inputs_of}

-- in each cycle of the list the data of a received port are below 2 to its width, valid or not
abbrev pub InputsFit : Process → Inputs → Type 0
InputsFit p inputs =
    (m t : ℕ) → t < inputs.count → is_received p m ≡ true → inputs.data_at m t < 2 ^ (nth_port p.ports m).width

abbrev pub RowsFit : List Port → List Row → Type 0
RowsFit ports rows = (row : Row) → Has rows row → IsTrue (row_fits ports row)

-- Rows that fit the ports are an input list that fits.
abbrev pub RowsGiveFittingInputs : Type 0
RowsGiveFittingInputs = (p : Process) (rows : List Row) → RowsFit p.ports rows → InputsFit p (inputs_of rows)
