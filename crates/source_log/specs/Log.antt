-- What is seen of the source run of a process on rows, whose log is put.
use Rattle.std.specs.Prelude.{ℕ, List}
use Rattle.core_term.specs.declared.rows.Row.{Row}
use Rattle.core_term.specs.History.{history}
use Rattle.core_term.specs.Outputs.{wires}
use Rattle.core_term.specs.Process.{Process}
use Rattle.core_term.specs.Rows.{inputs_of}
use Rattle.core_term.specs.Wires.{Wires}
use Rattle.run_log.specs.Shown.{Shown}

-- what the registers show in the run on the rows, and its wires
abbrev pub registers_on : Process → List Row → ℕ → ℕ → ℕ
registers_on p rows = history p (inputs_of rows)

abbrev pub wires_on : Process → List Row → Wires
wires_on p rows = wires p (inputs_of rows) (registers_on p rows)

abbrev pub shown_on : Process → List Row → Shown
shown_on p rows = record { wires = wires_on p rows; registers = registers_on p rows }
