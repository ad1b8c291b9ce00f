-- Rows against the ports of a module, and the inputs that begin with a list of rows.
use Rattle.std.specs.Prelude.{◌≡◌, ◌<◌, ℕ, IsTrue, List, [], length, map}
use Rattle.core_term.specs.declared.rows.Row.{Row}
use Rattle.core_term.specs.Inputs.{Inputs}
use Rattle.core_term.specs.Process.{Port}
use Rattle.core_term.specs.Rows.{row_fits, inputs_of}
use Rattle.sv_tree.specs.declared.tree.SvPort.{SvPort}
use Rattle.sv_tree.specs.Module.{Module}

-- a port of a module as one of a process, of which no life is known
abbrev pub port_of : SvPort → Port
port_of port =
    record { endpoint = port.endpoint; message = port.message; received = port.received; width = port.width; life = [] }

-- a cell for each port, of its direction and width
abbrev pub FitsPorts : Module → Row → Type 0
FitsPorts tree row = IsTrue (row_fits (map port_of tree.ports) row)

-- In the first cycles `inputs` is what the rows are. What comes in later is left open.
pub record BeginsWith (inputs : Inputs) (rows : List Row) : Type 0 where
  pub valid : (port cycle : ℕ) → cycle < length rows → inputs.valid port cycle ≡ (inputs_of rows).valid port cycle
  pub data_at : (port cycle : ℕ) → cycle < length rows → inputs.data_at port cycle ≡ (inputs_of rows).data_at port cycle
  pub ack : (port cycle : ℕ) → cycle < length rows → inputs.ack port cycle ≡ (inputs_of rows).ack port cycle
