-- That a simulation stands after the rows that it has taken, and shows the run of its process.
use Rattle.std.specs.Prelude.{ℕ, ◌≡◌, ◌<◌, ◌++◌, IsTrue, false, List, [], ◌∷◌, length}
use Rattle.core_term.specs.declared.rows.Row.{Row}
use Rattle.core_term.specs.Inputs.{Inputs}
use Rattle.core_term.specs.Process.{Process, nth_port}
use Rattle.core_term.specs.History.{history}
use Rattle.core_term.specs.Outputs.{wires}
use Rattle.core_term.specs.Rows.{row_fits, inputs_of, cells_shown}
use Rattle.run_laws.specs.OneRun.{SameRows}
use Rattle.sim_laws.specs.Fitting.{Fitting}
use Rattle.sim_laws.specs.Passes.{drive_at}
use Rattle.sim_laws.specs.Stands.{State, AreLong, StandsAfter, state_after, drives_in, shown_cells, number_at, latest_at}

-- a number for each register, and a latest exchange for each port
abbrev pub HasPlaces : Process → State → Type 0
HasPlaces p state = (length state.registers ≡ length p.registers) × (length state.latests ≡ length p.ports)

-- the numbers that are driven and kept have the widths of their ports
abbrev pub IsWide : Process → Row → State → Type 0
IsWide p row state =
    ((m : ℕ) → m < length p.ports → (drive_at (drives_in p row.cells.items state) m).number.width ≡ (nth_port p.ports m).width)
    × ((m : ℕ) → m < length p.ports → (latest_at state.latests m).number.width ≡ (nth_port p.ports m).width)

-- what comes in begins with the rows; what comes later is left open
abbrev pub BeginsWith : Inputs → List Row → Type 0
BeginsWith inputs rows = SameRows (length rows) inputs (inputs_of rows)

-- A simulation in which nothing has begun, whose registers show their resets, stands after no rows.
abbrev pub NewStands : Type 0
NewStands = (p : Process) (state : State) → state.begun ≡ false → AreLong p.threads state.threads → ((r : ℕ) → number_at state.registers r ≡ history p (inputs_of []) 0 r) → ((m : ℕ) → (latest_at state.latests m).lives ≡ false) → StandsAfter p [] state

-- Where it stands after `rows`, one cycle with the row `row` makes it stand after both.
abbrev pub StepStands : Type 0
StepStands = (p : Process) → Fitting p → (rows : List Row) (row : Row) (state : State) → IsTrue (row_fits p.ports row) → HasPlaces p state → StandsAfter p rows state → StandsAfter p (rows ++ row ∷ []) (state_after p row.cells.items state)

-- And what it shows in that cycle is what the run shows, on every input list that begins with the rows.
abbrev pub StepShows : Type 0
StepShows = (p : Process) → Fitting p → (rows : List Row) (row : Row) (state : State) → IsTrue (row_fits p.ports row) → HasPlaces p state → IsWide p row state → StandsAfter p rows state
    → (inputs : Inputs) → BeginsWith inputs (rows ++ row ∷ [])
    → (shown_cells p.ports (drives_in p row.cells.items state) state.latests ≡ cells_shown (wires p inputs (history p inputs)) (length rows) 0 p.ports)
    × ((r : ℕ) → number_at state.registers r ≡ history p inputs (length rows) r)
