-- Where a machine stands: after a list of rows that it does not keep.
use Rattle.std.specs.Prelude.{◌≡◌, List, length}
use Rattle.core_term.specs.declared.rows.Row.{Row}
use Rattle.core_term.specs.Inputs.{Inputs}
use Rattle.sv_tree.specs.Clocked.{registers_at}
use Rattle.sv_meaning.specs.Rows.{BeginsWith}
use Rattle.sv_meaning.specs.State.{State}

-- the registers are those of the cycle after the rows, whatever comes in from that cycle on
abbrev pub StandsAfter : List Row → State → Type 0
StandsAfter rows machine =
    (inputs : Inputs) → BeginsWith inputs rows → machine.registers ≡ registers_at machine.tree inputs (length rows)
