-- The clocked meaning of a module over what comes in from the partners.
--
-- Each cycle has two phases: the nets are valued in order by their operators, then the outputs; then all registers take
-- their next values together. Cycle 0 has the reset values. So an `assign` is continuous (IEEE 1800-2017, 10.3.2), and
-- `<=` at a clock edge reads the old values of all registers and writes them together (10.4.2).
use Rattle.std.specs.Prelude.{ℕ, zero, suc, List, [], ◌∷◌, ◌++◌, map, slice_index}
use Rattle.anvil_bits.specs.Operators.{truth, not_of, slice_of, choice_of}
use Rattle.core_term.specs.Operators.{operate}
use Rattle.core_term.specs.Inputs.{Inputs}
use Rattle.sv_tree.specs.declared.tree.SvRef.{SvRef}
use Rattle.sv_tree.specs.declared.tree.SvRef.TheVariants.{Data, Valid, Ack, Reg, Net}
use Rattle.sv_tree.specs.declared.tree.SvOperand.{SvOperand}
use Rattle.sv_tree.specs.declared.tree.SvOperand.TheVariants.{Ref, Lit}
use Rattle.sv_tree.specs.declared.tree.SvOp.{SvOp}
use Rattle.sv_tree.specs.declared.tree.SvOp.TheVariants.{Not, Bin, Slice, Choose}
use Rattle.sv_tree.specs.declared.tree.SvNet.{SvNet}
use Rattle.sv_tree.specs.declared.tree.SvOut.{SvOut}
use Rattle.sv_tree.specs.declared.tree.SvOut.TheVariants.{Received, Sent}
use Rattle.sv_tree.specs.Module.{Module}
use Rattle.sv_tree.specs.WellFormed.{operand_width}

-- what a name shows in a cycle, over the values of the registers and of the nets so far
abbrev pub ref_value : Inputs → (cycle : ℕ) → (registers nets : List ℕ) → SvRef → ℕ
ref_value inputs cycle registers nets (Data port) = inputs.data_at port cycle
ref_value inputs cycle registers nets (Valid port) = truth (inputs.valid port cycle)
ref_value inputs cycle registers nets (Ack port) = truth (inputs.ack port cycle)
ref_value inputs cycle registers nets (Reg register) = slice_index registers register
ref_value inputs cycle registers nets (Net net) = slice_index nets net

abbrev pub operand_value : Inputs → (cycle : ℕ) → (registers nets : List ℕ) → SvOperand → ℕ
operand_value inputs cycle registers nets (Ref ref) = ref_value inputs cycle registers nets ref
operand_value inputs cycle registers nets (Lit number) = number.value

-- what an operator gives a net of `width` bits
abbrev pub operation_value : Module → Inputs → (cycle : ℕ) → (registers nets : List ℕ) → (width : ℕ) → SvOp → ℕ
operation_value tree inputs cycle registers nets width (Not x) =
    not_of width (operand_value inputs cycle registers nets x)
operation_value tree inputs cycle registers nets width (Bin op x y) =
    operate op width (operand_width tree y) (operand_value inputs cycle registers nets x)
    (operand_value inputs cycle registers nets y)
operation_value tree inputs cycle registers nets width (Slice of high low) =
    slice_of high low (ref_value inputs cycle registers nets of)
operation_value tree inputs cycle registers nets width (Choose condition x y) =
    choice_of (operand_value inputs cycle registers nets condition)
    (operand_value inputs cycle registers nets x)
    (operand_value inputs cycle registers nets y)

-- the values of nets in order, after those so far
abbrev pub net_values_after : Module → Inputs → (cycle : ℕ) → (registers nets : List ℕ) → List SvNet → List ℕ
net_values_after tree inputs cycle registers nets [] = nets
net_values_after tree inputs cycle registers nets (net ∷ rest) =
    net_values_after tree inputs cycle registers
    (nets ++ operation_value tree inputs cycle registers nets net.width net.op ∷ []) rest

abbrev pub net_values : Module → Inputs → (cycle : ℕ) → (registers : List ℕ) → List ℕ
net_values tree inputs cycle registers = net_values_after tree inputs cycle registers [] tree.nets

-- what an operand shows once all nets are valued
abbrev pub settled_value : Module → Inputs → (cycle : ℕ) → (registers : List ℕ) → SvOperand → ℕ
settled_value tree inputs cycle registers x =
    operand_value inputs cycle registers (net_values tree inputs cycle registers) x

-- what the outgoing wires of a port show
pub data Output : Type 0 where
  received : (ack : ℕ) → Output
  sent : (value valid : ℕ) → Output

abbrev pub output_value : Module → Inputs → (cycle : ℕ) → (registers : List ℕ) → SvOut → Output
output_value tree inputs cycle registers (Received ack) = received (settled_value tree inputs cycle registers ack)
output_value tree inputs cycle registers (Sent value valid) =
    sent (settled_value tree inputs cycle registers value) (settled_value tree inputs cycle registers valid)

-- the registers after a cycle
abbrev pub next_registers : Module → Inputs → (cycle : ℕ) → (registers : List ℕ) → List ℕ
next_registers tree inputs cycle registers = map (settled_value tree inputs cycle registers) tree.nexts

abbrev pub reset_values : Module → List ℕ
reset_values tree = map (λ r. r.reset.value) tree.regs

-- the registers in a cycle
unfoldable pub registers_at : Module → Inputs → (cycle : ℕ) → List ℕ
registers_at tree inputs zero = reset_values tree
registers_at tree inputs (suc cycle) = next_registers tree inputs cycle (registers_at tree inputs cycle)

-- the outputs in a cycle, in port order
abbrev pub outputs_at : Module → Inputs → (cycle : ℕ) → List Output
outputs_at tree inputs cycle = map (output_value tree inputs cycle (registers_at tree inputs cycle)) tree.outs
