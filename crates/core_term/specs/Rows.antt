-- Rows of inputs and of outputs, as the code keeps them, against input lists and runs.
--
-- A row has a cell for each port, in port order. The value of a cell is what the `data` wire of the port carries.
use Rattle.std.specs.Prelude.{ℕ, ◌+◌, ◌^◌, ◌==◌, ◌&&◌, nat_lt, Bool, true, false, not, List, [], ◌∷◌, length, zero, suc}
use Rattle.std.specs.Prelude.{Option, Some, None}
use Rattle.anvil_bits.specs.Number.{Number}
use Rattle.core_term.specs.declared.rows.InCell.{InCell}
use Rattle.core_term.specs.declared.rows.InCell.TheVariants as incoming
use Rattle.core_term.specs.declared.rows.OutCell.{OutCell}
use Rattle.core_term.specs.declared.rows.OutCell.TheVariants as outgoing
use Rattle.core_term.specs.declared.rows.Row.{Row}
use Rattle.core_term.specs.Inputs.{Inputs}
use Rattle.core_term.specs.Process.{Port, Register}
use Rattle.core_term.specs.Wires.{Wires}

-- Input rows.

-- of the port's direction and width, with data below 2 to that width
abbrev pub cell_fits : Port → InCell → Bool
cell_fits port (incoming.Received valid v) =
    port.received && ((v.width == port.width) && nat_lt v.value (2 ^ port.width))
cell_fits port (incoming.Sent ack) = not port.received

abbrev pub cells_fit : List Port → List InCell → Bool
cells_fit [] [] = true
cells_fit [] (cell ∷ cells) = false
cells_fit (port ∷ ports) [] = false
cells_fit (port ∷ ports) (cell ∷ cells) = cell_fits port cell && cells_fit ports cells

abbrev pub row_fits : List Port → Row → Bool
row_fits ports row = cells_fit ports row.cells.items

abbrev pub nth_cell : List InCell → ℕ → Option InCell
nth_cell [] m = None
nth_cell (cell ∷ cells) zero = Some cell
nth_cell (cell ∷ cells) (suc m) = nth_cell cells m

abbrev pub nth_row : List Row → ℕ → List InCell
nth_row [] t = []
nth_row (row ∷ rows) zero = row.cells.items
nth_row (row ∷ rows) (suc t) = nth_row rows t

abbrev pub valid_in : Option InCell → Bool
valid_in (Some (incoming.Received valid v)) = valid
valid_in (Some (incoming.Sent ack)) = false
valid_in None = false

abbrev pub data_in : Option InCell → ℕ
data_in (Some (incoming.Received valid v)) = v.value
data_in (Some (incoming.Sent ack)) = 0
data_in None = 0

abbrev pub ack_in : Option InCell → Bool
ack_in (Some (incoming.Received valid v)) = false
ack_in (Some (incoming.Sent ack)) = ack
ack_in None = false

-- the input list that the rows are
abbrev pub inputs_of : List Row → Inputs
inputs_of rows = record {
  count = length rows;
  valid = λ m t. valid_in (nth_cell (nth_row rows t) m);
  data_at = λ m t. data_in (nth_cell (nth_row rows t) m);
  ack = λ m t. ack_in (nth_cell (nth_row rows t) m);
}

-- Output rows.

abbrev pub number_of : ℕ → ℕ → Number
number_of w n = record { width = w; value = n }

-- the cell of a port: its `ack` where it is received, its `valid` and its data where it is sent
abbrev pub out_cell : (received : Bool) (width : ℕ) (ack valid : Bool) (number : ℕ) → OutCell
out_cell true width ack valid number = outgoing.Received ack
out_cell false width ack valid number = outgoing.Sent valid (number_of width number)

-- what the wires show of the port m in cycle t
abbrev pub cell_shown : Wires → ℕ → ℕ → Port → OutCell
cell_shown wires t m port = out_cell port.received port.width (wires.ack m t) (wires.valid m t) (wires.data_at m t)

-- of the ports from the number m on
abbrev pub cells_shown : Wires → ℕ → ℕ → List Port → List OutCell
cells_shown wires t m [] = []
cells_shown wires t m (port ∷ ports) = cell_shown wires t m port ∷ cells_shown wires t (m + 1) ports

-- what the registers from the number r on show in cycle t
abbrev pub registers_shown : (ℕ → ℕ → ℕ) → ℕ → ℕ → List Register → List Number
registers_shown history t r [] = []
registers_shown history t r (register ∷ registers) =
    number_of register.width (history t r) ∷ registers_shown history t (r + 1) registers

-- a row of zeros
abbrev pub zero_cell : Port → OutCell
zero_cell port = out_cell port.received port.width false false 0

abbrev pub zero_register : Register → Number
zero_register register = number_of register.width 0
