-- What an output row shows of a cycle: the outgoing wires of each port, and the source registers.
use Rattle.std.specs.Prelude.{◌≡◌, ◌==◌, ℕ, suc, if◌then◌else◌, List, [], ◌∷◌, ◌++◌, length}
use Rattle.anvil_bits.specs.Number.{Number}
use Rattle.core_term.specs.declared.rows.OutCell.{OutCell}
use Rattle.core_term.specs.declared.rows.OutCell.TheVariants as outgoing
use Rattle.core_term.specs.declared.rows.OutRow.{OutRow}
use Rattle.core_term.specs.declared.rows.Row.{Row}
use Rattle.core_term.specs.Inputs.{Inputs}
use Rattle.core_term.specs.Rows.{number_of}
use Rattle.sv_tree.specs.declared.tree.SvPort.{SvPort}
use Rattle.sv_tree.specs.declared.tree.SvReg.{SvReg}
use Rattle.sv_tree.specs.Module.{Module}
use Rattle.sv_tree.specs.Sources.{is_source}
use Rattle.sv_tree.specs.Clocked.{Output, received, sent, outputs_at, registers_at}
use Rattle.sv_meaning.specs.Rows.{BeginsWith}

-- a wire of one bit is a test; `data` has the width of its port
abbrev pub cell_of : SvPort → Output → OutCell
cell_of port (received ack) = outgoing.Received (ack == 1)
cell_of port (sent value valid) = outgoing.Sent (valid == 1) (number_of port.width value)

abbrev pub cells_of : List SvPort → List Output → List OutCell
cells_of [] outputs = []
cells_of (port ∷ ports) [] = []
cells_of (port ∷ ports) (output ∷ outputs) = cell_of port output ∷ cells_of ports outputs

-- how many registers are of the source
abbrev pub source_count : List SvReg → ℕ
source_count [] = 0
source_count (reg ∷ regs) = if is_source reg.name then suc (source_count regs) else source_count regs

-- one cell for each port, and one number for each register of the source
abbrev pub HasPlaces : Module → OutRow → Type 0
HasPlaces tree row = (length row.cells.items ≡ length tree.ports) × (length row.regs.items ≡ source_count tree.regs)

-- what the registers of the source show, of the values of all registers
abbrev pub sources_of : List SvReg → (values : List ℕ) → List Number
sources_of [] values = []
sources_of (reg ∷ regs) [] = []
sources_of (reg ∷ regs) (value ∷ values) =
    if is_source reg.name then number_of reg.width value ∷ sources_of regs values else sources_of regs values

-- The cycle after `rows`, in which `row` comes in, whatever comes in later: what goes out on each port.
abbrev pub ShowsOutputs : (rows : List Row) → (row : Row) → Module → OutRow → Type 0
ShowsOutputs rows row tree shown =
    (inputs : Inputs) → BeginsWith inputs (rows ++ row ∷ [])
    → shown.cells.items ≡ cells_of tree.ports (outputs_at tree inputs (length rows))

-- and what the registers of the source hold
abbrev pub ShowsSources : (rows : List Row) → (row : Row) → Module → OutRow → Type 0
ShowsSources rows row tree shown =
    (inputs : Inputs) → BeginsWith inputs (rows ++ row ∷ [])
    → shown.regs.items ≡ sources_of tree.regs (registers_at tree inputs (length rows))
