-- A cycle as the machine works it out: one row, the registers, and the nets valued so far. All are numbers with a
-- width.
use Rattle.std.specs.Prelude.{◌≡◌, ◌==◌, ◌&&◌, ℕ, Bool, IsTrue, List, length, map, take}
use Rattle.anvil_bits.specs.Number.{Number}
use Rattle.core_term.specs.declared.rows.OutCell.{OutCell}
use Rattle.core_term.specs.declared.rows.OutCell.TheVariants as outgoing
use Rattle.core_term.specs.declared.rows.InCell.{InCell}
use Rattle.core_term.specs.Inputs.{Inputs}
use Rattle.core_term.specs.Rows.{number_of, cells_fit, nth_cell, valid_in, data_in, ack_in}
use Rattle.sv_tree.specs.declared.tree.SvRef.{SvRef}
use Rattle.sv_tree.specs.declared.tree.SvOperand.{SvOperand}
use Rattle.sv_tree.specs.declared.tree.SvNet.{SvNet}
use Rattle.sv_tree.specs.declared.tree.SvOut.{SvOut}
use Rattle.sv_tree.specs.declared.tree.SvOut.TheVariants.{Received, Sent}
use Rattle.sv_tree.specs.Module.{Module}
use Rattle.sv_tree.specs.WellFormed.{ref_width, operand_width, operand_stands}
use Rattle.sv_tree.specs.Clocked.{ref_value, operand_value, operation_value}
use Rattle.sv_meaning.specs.declared.cycle.Cycle.{Cycle}
use Rattle.sv_meaning.specs.Rows.{port_of}

abbrev pub values : List Number → List ℕ
values numbers = map (λ number. number.value) numbers

abbrev pub widths : List Number → List ℕ
widths numbers = map (λ number. number.width) numbers

-- numbers of the widths of the registers
abbrev pub AreRegisters : Module → List Number → Type 0
AreRegisters tree numbers = widths numbers ≡ map (λ reg. reg.width) tree.regs

-- numbers of the widths of the first nets
abbrev pub AreNets : Module → List Number → Type 0
AreNets tree numbers = widths numbers ≡ map (λ net. net.width) (take (length numbers) tree.nets)

-- numbers of the widths of all nets
abbrev pub AreAllNets : Module → List Number → Type 0
AreAllNets tree numbers = widths numbers ≡ map (λ net. net.width) tree.nets

-- the cells fit the ports, and the registers are those of the module
abbrev pub IsCycle : Cycle → Type 0
IsCycle cycle =
    IsTrue (cells_fit (map port_of cycle.module.now.ports) cycle.cells.now)
    × AreRegisters cycle.module.now cycle.registers.now

-- inputs that have these cells in each cycle
abbrev pub in_cells : List InCell → Inputs
in_cells cells = record {
  count = 1;
  valid = λ port cycle. valid_in (nth_cell cells port);
  data_at = λ port cycle. data_in (nth_cell cells port);
  ack = λ port cycle. ack_in (nth_cell cells port);
}

abbrev pub name_in : Cycle → (nets : List Number) → SvRef → Number
name_in cycle nets name =
    number_of (ref_width cycle.module.now name)
    (ref_value (in_cells cycle.cells.now) 0 (values cycle.registers.now) (values nets) name)

abbrev pub operand_in : Cycle → (nets : List Number) → SvOperand → Number
operand_in cycle nets x =
    number_of (operand_width cycle.module.now x)
    (operand_value (in_cells cycle.cells.now) 0 (values cycle.registers.now) (values nets) x)

abbrev pub net_in : Cycle → (nets : List Number) → SvNet → Number
net_in cycle nets net =
    number_of net.width
    (operation_value cycle.module.now (in_cells cycle.cells.now) 0 (values cycle.registers.now) (values nets) net.width
    net.op)

-- the outgoing wires of a port that are given by operands
abbrev pub out_in : Cycle → (nets : List Number) → SvOut → OutCell
out_in cycle nets (Received ack) = outgoing.Received ((operand_in cycle nets ack).value == 1)
out_in cycle nets (Sent value valid) =
    outgoing.Sent ((operand_in cycle nets valid).value == 1) (operand_in cycle nets value)

-- operands that stand once all nets are valued
abbrev pub out_stands : Module → SvOut → Bool
out_stands tree (Received ack) = operand_stands tree (length tree.nets) ack
out_stands tree (Sent value valid) =
    operand_stands tree (length tree.nets) value && operand_stands tree (length tree.nets) valid
