-- A well-formed module: one whose text is in the emitted subset, and whose operators have operands of the widths that
-- the facts of IEEE 1800-2017 ask for. It is a test that computes, with a part for each point.
use Rattle.std.specs.Prelude.{ℕ, ◌+◌, ◌^◌, ◌==◌, nat_lt, nat_le, Bool, true, false, not, ◌&&◌, IsTrue}
use Rattle.std.specs.Prelude.{List, [], ◌∷◌, length, map, slice_get, slice_index, bytes_eq, Option, Some, None}
use Rattle.std.specs.List.{list_all}
use Rattle.anvil_bits.specs.Number.{Number}
use Rattle.core_term.specs.declared.operators.BinOp.{BinOp}
use Rattle.core_term.specs.declared.operators.BinOp.TheVariants.{Add, Sub, Mul, And, Or, Xor, Eq, Ne, Lt, Le, Gt, Ge}
use Rattle.core_term.specs.declared.operators.BinOp.TheVariants.{Shl, Shr, Cat}
pub use Rattle.core_term.specs.Names.{has_no_twice}
use Rattle.sv_tree.specs.declared.tree.SvPort.{SvPort}
use Rattle.sv_tree.specs.declared.tree.SvRegName.{SvRegName}
use Rattle.sv_tree.specs.declared.tree.SvRegName.TheVariants.{Source, State}
use Rattle.sv_tree.specs.declared.tree.SvReg.{SvReg}
use Rattle.sv_tree.specs.declared.tree.SvRef.{SvRef}
use Rattle.sv_tree.specs.declared.tree.SvRef.TheVariants.{Data, Valid, Ack, Reg, Net}
use Rattle.sv_tree.specs.declared.tree.SvOperand.{SvOperand}
use Rattle.sv_tree.specs.declared.tree.SvOperand.TheVariants.{Ref, Lit}
use Rattle.sv_tree.specs.declared.tree.SvOp.{SvOp}
use Rattle.sv_tree.specs.declared.tree.SvOp.TheVariants.{Not, Bin, Slice, Choose}
use Rattle.sv_tree.specs.declared.tree.SvNet.{SvNet}
use Rattle.sv_tree.specs.declared.tree.SvOut.{SvOut}
use Rattle.sv_tree.specs.declared.tree.SvOut.TheVariants.{Received, Sent}
use Rattle.sv_tree.specs.GoodName.{is_good_name}
use Rattle.sv_tree.specs.Limits.{widest, longest_name, too_many}
use Rattle.sv_tree.specs.Module.{Module}

-- Names.

abbrev pub is_name : List ℕ → Bool
is_name name = is_good_name name && nat_le (length name) longest_name

abbrev pub is_port_name : SvPort → Bool
is_port_name port = is_name port.endpoint && is_name port.message

-- a state has a number in place of a name
abbrev pub is_register_name : SvRegName → Bool
is_register_name (Source name) = is_name name
is_register_name (State number) = true

abbrev pub names_are_good : Module → Bool
names_are_good tree =
    is_name tree.proc && list_all is_port_name tree.ports && list_all (λ r. is_register_name r.name) tree.regs

-- Nothing stands twice.

-- of one endpoint and message
abbrev pub is_same_port : SvPort → SvPort → Bool
is_same_port one other = bytes_eq one.endpoint other.endpoint && bytes_eq one.message other.message

abbrev pub is_same_register : SvRegName → SvRegName → Bool
is_same_register (Source one) (Source other) = bytes_eq one other
is_same_register (Source one) (State number) = false
is_same_register (State number) (Source other) = false
is_same_register (State one) (State other) = one == other

abbrev pub register_names : Module → List SvRegName
register_names tree = map (λ r. r.name) tree.regs

abbrev pub names_differ : Module → Bool
names_differ tree = has_no_twice is_same_port tree.ports && has_no_twice is_same_register (register_names tree)

-- Source registers stand before states, and states are numbered from 0 in order.

-- states alone, numbered from `first` on
abbrev pub are_states_from : ℕ → List SvRegName → Bool
are_states_from first [] = true
are_states_from first (Source name ∷ rest) = false
are_states_from first (State number ∷ rest) = (number == first) && are_states_from (first + 1) rest

abbrev pub sources_then_states : List SvRegName → Bool
sources_then_states [] = true
sources_then_states (Source name ∷ rest) = sources_then_states rest
sources_then_states (State number ∷ rest) = are_states_from 0 (State number ∷ rest)

-- Widths are within the limit, and a literal is below 2 to its width.

abbrev pub is_width : ℕ → Bool
is_width width = nat_le 1 width && nat_le width widest

abbrev pub is_number : Number → Bool
is_number number = is_width number.width && nat_lt number.value (2 ^ number.width)

abbrev pub widths_are_within : Module → Bool
widths_are_within tree =
    list_all (λ p. is_width p.width) tree.ports && list_all (λ r. is_width r.width) tree.regs
    && list_all (λ n. is_width n.width) tree.nets

-- Operands. Each is the `data` or `valid` of a received port, the `ack` of a sent port, a register, one of the first
-- `known` nets, or a literal.

abbrev pub is_received : Option SvPort → Bool
is_received None = false
is_received (Some port) = port.received

abbrev pub is_sent : Option SvPort → Bool
is_sent None = false
is_sent (Some port) = not port.received

abbrev pub ref_stands : Module → (known : ℕ) → SvRef → Bool
ref_stands tree known (Data port) = is_received (slice_get tree.ports port)
ref_stands tree known (Valid port) = is_received (slice_get tree.ports port)
ref_stands tree known (Ack port) = is_sent (slice_get tree.ports port)
ref_stands tree known (Reg register) = nat_lt register (length tree.regs)
ref_stands tree known (Net net) = nat_lt net known

abbrev pub operand_stands : Module → (known : ℕ) → SvOperand → Bool
operand_stands tree known (Ref ref) = ref_stands tree known ref
operand_stands tree known (Lit number) = is_number number

-- the width of what stands in the module
abbrev pub ref_width : Module → SvRef → ℕ
ref_width tree (Data port) = slice_index (map (λ p. p.width) tree.ports) port
ref_width tree (Valid port) = 1
ref_width tree (Ack port) = 1
ref_width tree (Reg register) = slice_index (map (λ r. r.width) tree.regs) register
ref_width tree (Net net) = slice_index (map (λ n. n.width) tree.nets) net

abbrev pub operand_width : Module → SvOperand → ℕ
operand_width tree (Ref ref) = ref_width tree ref
operand_width tree (Lit number) = number.width

-- an operand that stands, of this width
abbrev pub is_operand_of : Module → (known width : ℕ) → SvOperand → Bool
is_operand_of tree known width x = operand_stands tree known x && (operand_width tree x == width)

-- Operators: whether a net of `width` bits goes with operands of x and y bits.

abbrev pub are_of_width : (width x y : ℕ) → Bool
are_of_width width x y = (x == width) && (y == width)

abbrev pub are_compared : (width x y : ℕ) → Bool
are_compared width x y = (x == y) && (width == 1)

abbrev pub bin_widths_fit : BinOp → (width x y : ℕ) → Bool
bin_widths_fit Add width x y = are_of_width width x y
bin_widths_fit Sub width x y = are_of_width width x y
bin_widths_fit Mul width x y = are_of_width width x y
bin_widths_fit And width x y = are_of_width width x y
bin_widths_fit Or width x y = are_of_width width x y
bin_widths_fit Xor width x y = are_of_width width x y
bin_widths_fit Eq width x y = are_compared width x y
bin_widths_fit Ne width x y = are_compared width x y
bin_widths_fit Lt width x y = are_compared width x y
bin_widths_fit Le width x y = are_compared width x y
bin_widths_fit Gt width x y = are_compared width x y
bin_widths_fit Ge width x y = are_compared width x y
bin_widths_fit Shl width x y = x == width
bin_widths_fit Shr width x y = x == width
bin_widths_fit Cat width x y = x + y == width

-- the bits from `high` down to `low` of an operand of x bits
abbrev pub slice_widths_fit : (high low width x : ℕ) → Bool
slice_widths_fit high low width x = nat_le low high && nat_lt high x && (width + low == high + 1)

-- an operator of a net of `width` bits after `known` nets
abbrev pub op_fits : Module → (known width : ℕ) → SvOp → Bool
op_fits tree known width (Not x) = is_operand_of tree known width x
op_fits tree known width (Bin op x y) =
    operand_stands tree known x && operand_stands tree known y
    && bin_widths_fit op width (operand_width tree x) (operand_width tree y)
op_fits tree known width (Slice of high low) =
    ref_stands tree known of && slice_widths_fit high low width (ref_width tree of)
op_fits tree known width (Choose condition x y) =
    is_operand_of tree known 1 condition && is_operand_of tree known width x && is_operand_of tree known width y

-- nets after `known` earlier ones: each reads earlier nets alone
abbrev pub nets_fit : Module → (known : ℕ) → List SvNet → Bool
nets_fit tree known [] = true
nets_fit tree known (net ∷ rest) = op_fits tree known net.width net.op && nets_fit tree (known + 1) rest

-- Outputs, resets and next values have the width of what they are given to.

-- an operand of this width; every net may be read
abbrev pub gives : Module → (width : ℕ) → SvOperand → Bool
gives tree width x = is_operand_of tree (length tree.nets) width x

abbrev pub out_fits : Module → SvPort → SvOut → Bool
out_fits tree port (Received ack) = port.received && gives tree 1 ack
out_fits tree port (Sent value valid) = not port.received && gives tree port.width value && gives tree 1 valid

-- one output per port
abbrev pub outs_fit : Module → List SvPort → List SvOut → Bool
outs_fit tree [] [] = true
outs_fit tree [] (out ∷ outs) = false
outs_fit tree (port ∷ ports) [] = false
outs_fit tree (port ∷ ports) (out ∷ outs) = out_fits tree port out && outs_fit tree ports outs

abbrev pub reset_fits : SvReg → Bool
reset_fits reg = is_number reg.reset && (reg.reset.width == reg.width)

-- one next value per register
abbrev pub nexts_fit : Module → List SvReg → List SvOperand → Bool
nexts_fit tree [] [] = true
nexts_fit tree [] (next ∷ nexts) = false
nexts_fit tree (reg ∷ regs) [] = false
nexts_fit tree (reg ∷ regs) (next ∷ nexts) = gives tree reg.width next && nexts_fit tree regs nexts

-- Ports, registers and nets are each fewer than 2 ^ 32.
abbrev pub are_few : Module → Bool
are_few tree =
    nat_lt (length tree.ports) too_many && nat_lt (length tree.regs) too_many && nat_lt (length tree.nets) too_many

unfoldable pub is_well_formed : Module → Bool
is_well_formed tree =
    names_are_good tree && names_differ tree && sources_then_states
    (register_names tree) && widths_are_within tree && nets_fit tree 0 tree.nets
    && outs_fit tree tree.ports tree.outs && list_all reset_fits tree.regs && nexts_fit tree tree.regs tree.nexts
    && are_few tree

abbrev pub IsWellFormed : Module → Type 0
IsWellFormed tree = IsTrue (is_well_formed tree)
