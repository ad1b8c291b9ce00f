-- The text of a module, and of several: the lines of the emitted subset of SystemVerilog (IEEE 1800-2017, clauses 23.2 on
-- modules, 10.3.2 on `assign`, 9.2.2.4 on `always_ff`, 10.4.2 on `<=`), each by a definition of its own. All lines end with
-- a line feed. An operand that names what the module has not got has no text.
use Rattle.std.specs.Prelude.{◌≡◌, ℕ, ◌-◌, Bool, true, false, not, IsTrue}
use Rattle.std.specs.Prelude.{List, [], ◌∷◌, ◌++◌, map, zip, flat_map, slice_get, bytes_eq, codes, decimal, Option, Some, None}
use Rattle.std.specs.List.{list_all, enumerate_from}
use Rattle.anvil_bits.specs.Number.{Number}
use Rattle.core_term.specs.declared.operators.BinOp.{BinOp}
use Rattle.core_term.specs.declared.operators.BinOp.TheVariants.{Add, Sub, Mul, And, Or, Xor, Eq, Ne, Lt, Le, Gt, Ge, Shl, Shr, Cat}
use Rattle.sv_tree.specs.declared.tree.SvPort.{SvPort}
use Rattle.sv_tree.specs.declared.tree.SvRegName.{SvRegName}
use Rattle.sv_tree.specs.declared.tree.SvRegName.TheVariants.{Source, State}
use Rattle.sv_tree.specs.declared.tree.SvReg.{SvReg}
use Rattle.sv_tree.specs.declared.tree.SvRef.{SvRef}
use Rattle.sv_tree.specs.declared.tree.SvRef.TheVariants.{Data, Valid, Ack, Reg, Net}
use Rattle.sv_tree.specs.declared.tree.SvOperand.{SvOperand}
use Rattle.sv_tree.specs.declared.tree.SvOperand.TheVariants.{Ref, Lit}
use Rattle.sv_tree.specs.declared.tree.SvOp.{SvOp}
use Rattle.sv_tree.specs.declared.tree.SvOp.TheVariants.{Not, Bin, Slice, Choose}
use Rattle.sv_tree.specs.declared.tree.SvNet.{SvNet}
use Rattle.sv_tree.specs.declared.tree.SvOut.{SvOut}
use Rattle.sv_tree.specs.declared.tree.SvOut.TheVariants.{Received, Sent}
use Rattle.sv_tree.specs.Module.{Module}
use Rattle.sv_tree.specs.WellFormed.{is_well_formed, has_no_twice}

-- The header's ports. Each line ends with a comma but the last, so each of them brings the comma of the line before it.

-- which way a wire goes, and the begin of its range
abbrev pub direction_text : (comes_in : Bool) → List ℕ
direction_text true = codes ",\n  input logic ["
direction_text false = codes ",\n  output logic ["

-- `  input logic [H:0] E__M__data`, H the width less one
abbrev pub data_line : SvPort → List ℕ
data_line port =
    direction_text port.received ++ (decimal (port.width - 1) ++ (codes ":0] " ++ (port.endpoint ++ (codes "__" ++ (port.message ++ codes "__data")))))

-- `  input logic [0:0] E__M__valid`
abbrev pub valid_line : SvPort → List ℕ
valid_line port = direction_text port.received ++ (codes "0:0] " ++ (port.endpoint ++ (codes "__" ++ (port.message ++ codes "__valid"))))

-- `  output logic [0:0] E__M__ack`
abbrev pub ack_line : SvPort → List ℕ
ack_line port = direction_text (not port.received) ++ (codes "0:0] " ++ (port.endpoint ++ (codes "__" ++ (port.message ++ codes "__ack"))))

abbrev pub port_lines : SvPort → List ℕ
port_lines port = data_line port ++ (valid_line port ++ ack_line port)

-- `module anvil__P (`, clock and reset
abbrev pub opening_lines : (proc : List ℕ) → List ℕ
opening_lines proc = codes "module anvil__" ++ (proc ++ codes " (\n  input logic clk_i,\n  input logic rst_ni")

abbrev pub closing_line : List ℕ
closing_line = codes "\n);\n"

-- Operands and operators.

-- `NAME__q` or `s__K`
abbrev pub register_text : SvRegName → List ℕ
register_text (Source name) = name ++ codes "__q"
register_text (State number) = codes "s__" ++ decimal number

-- `n__K`
abbrev pub net_text : (net : ℕ) → List ℕ
net_text net = codes "n__" ++ decimal net

-- `W'dN`
abbrev pub literal_text : Number → List ℕ
literal_text number = decimal number.width ++ (codes "'d" ++ decimal number.value)

-- `E__M` and the wire
abbrev pub wire_text : Option SvPort → (wire : List ℕ) → List ℕ
wire_text None wire = []
wire_text (Some port) wire = port.endpoint ++ (codes "__" ++ (port.message ++ wire))

abbrev pub register_text_at : Option SvReg → List ℕ
register_text_at None = []
register_text_at (Some reg) = register_text reg.name

abbrev pub ref_text : Module → SvRef → List ℕ
ref_text tree (Data port) = wire_text (slice_get tree.ports port) (codes "__data")
ref_text tree (Valid port) = wire_text (slice_get tree.ports port) (codes "__valid")
ref_text tree (Ack port) = wire_text (slice_get tree.ports port) (codes "__ack")
ref_text tree (Reg register) = register_text_at (slice_get tree.regs register)
ref_text tree (Net net) = net_text net

abbrev pub operand_text : Module → SvOperand → List ℕ
operand_text tree (Ref ref) = ref_text tree ref
operand_text tree (Lit number) = literal_text number

-- what stands between two operands
abbrev pub operator_text : BinOp → List ℕ
operator_text Add = codes " + "
operator_text Sub = codes " - "
operator_text Mul = codes " * "
operator_text And = codes " & "
operator_text Or = codes " | "
operator_text Xor = codes " ^ "
operator_text Eq = codes " == "
operator_text Ne = codes " != "
operator_text Lt = codes " < "
operator_text Le = codes " <= "
operator_text Gt = codes " > "
operator_text Ge = codes " >= "
operator_text Shl = codes " << "
operator_text Shr = codes " >> "
operator_text Cat = codes ", "

-- what stands before and after them: braces for `{X, X}`, else nothing
abbrev pub before_text : BinOp → List ℕ
before_text Cat = codes "{"
before_text op = []

abbrev pub after_text : BinOp → List ℕ
after_text Cat = codes "}"
after_text op = []

-- `~X`, `X + X` and so on, `{X, X}`, `N[h:l]`, `X ? X : X`
abbrev pub op_text : Module → SvOp → List ℕ
op_text tree (Not x) = codes "~" ++ operand_text tree x
op_text tree (Bin op x y) = before_text op ++ (operand_text tree x ++ (operator_text op ++ (operand_text tree y ++ after_text op)))
op_text tree (Slice of high low) = ref_text tree of ++ (codes "[" ++ (decimal high ++ (codes ":" ++ (decimal low ++ codes "]"))))
op_text tree (Choose condition x y) = operand_text tree condition ++ (codes " ? " ++ (operand_text tree x ++ (codes " : " ++ operand_text tree y)))

-- Registers and nets.

-- `  logic [H:0] R;`
abbrev pub register_line : SvReg → List ℕ
register_line reg = codes "  logic [" ++ (decimal (reg.width - 1) ++ (codes ":0] " ++ (register_text reg.name ++ codes ";\n")))

-- `  logic [H:0] n__K;`
abbrev pub net_line : (place : ℕ) → SvNet → List ℕ
net_line place net = codes "  logic [" ++ (decimal (net.width - 1) ++ (codes ":0] n__" ++ (decimal place ++ codes ";\n")))

-- `  assign n__K = OP;`
abbrev pub net_assign_line : Module → (place : ℕ) → SvNet → List ℕ
net_assign_line tree place net = codes "  assign n__" ++ (decimal place ++ (codes " = " ++ (op_text tree net.op ++ codes ";\n")))

abbrev pub net_lines : Module → ℕ × SvNet → List ℕ
net_lines tree (place, net) = net_line place net ++ net_assign_line tree place net

-- Outputs.

-- `  assign E__M__ack = X;`, and so for `data` and `valid`
abbrev pub wire_assign_line : Module → SvPort → (wire : List ℕ) → SvOperand → List ℕ
wire_assign_line tree port wire x =
    codes "  assign " ++ (port.endpoint ++ (codes "__" ++ (port.message ++ (wire ++ (codes " = " ++ (operand_text tree x ++ codes ";\n"))))))

abbrev pub ack_assign_line : Module → SvPort → SvOperand → List ℕ
ack_assign_line tree port x = wire_assign_line tree port (codes "__ack") x

abbrev pub data_assign_line : Module → SvPort → SvOperand → List ℕ
data_assign_line tree port x = wire_assign_line tree port (codes "__data") x

abbrev pub valid_assign_line : Module → SvPort → SvOperand → List ℕ
valid_assign_line tree port x = wire_assign_line tree port (codes "__valid") x

abbrev pub out_lines_of : Module → SvPort → SvOut → List ℕ
out_lines_of tree port (Received ack) = ack_assign_line tree port ack
out_lines_of tree port (Sent value valid) = data_assign_line tree port value ++ valid_assign_line tree port valid

abbrev pub out_lines : Module → SvPort × SvOut → List ℕ
out_lines tree (port, out) = out_lines_of tree port out

-- The clock's block, where there are registers.

-- `      R <= W'dN;`
abbrev pub reset_line : SvReg → List ℕ
reset_line reg = codes "      " ++ (register_text reg.name ++ (codes " <= " ++ (literal_text reg.reset ++ codes ";\n")))

-- `      R <= X;`
abbrev pub next_line : Module → SvReg × SvOperand → List ℕ
next_line tree (reg, x) = codes "      " ++ (register_text reg.name ++ (codes " <= " ++ (operand_text tree x ++ codes ";\n")))

abbrev pub clock_opening_lines : List ℕ
clock_opening_lines = codes "  always_ff @(posedge clk_i) begin\n    if (!rst_ni) begin\n"

abbrev pub clock_else_line : List ℕ
clock_else_line = codes "    end else begin\n"

abbrev pub clock_closing_lines : List ℕ
clock_closing_lines = codes "    end\n  end\n"

abbrev pub clock_lines : Module → List SvReg → List ℕ
clock_lines tree [] = []
clock_lines tree (reg ∷ regs) =
    clock_opening_lines ++ (flat_map reset_line (reg ∷ regs)
    ++ (clock_else_line ++ (flat_map (next_line tree) (zip (reg ∷ regs) tree.nexts) ++ clock_closing_lines)))

-- Modules.

abbrev pub last_line : List ℕ
last_line = codes "endmodule\n"

unfoldable pub module_text : Module → List ℕ
module_text tree =
    opening_lines tree.proc
    ++ (flat_map port_lines tree.ports
    ++ (closing_line
    ++ (flat_map register_line tree.regs
    ++ (flat_map (net_lines tree) (enumerate_from 0 tree.nets)
    ++ (flat_map (out_lines tree) (zip tree.ports tree.outs)
    ++ (clock_lines tree tree.regs ++ last_line))))))

-- one after the other
abbrev pub modules_text : List Module → List ℕ
modules_text modules = flat_map module_text modules

-- These are the modules of the text.
pub record IsTextOf (text : List ℕ) (modules : List Module) : Type 0 where
  pub well_formed : IsTrue (list_all is_well_formed modules)
  pub names_differ : IsTrue (has_no_twice bytes_eq (map (λ tree. tree.proc) modules))
  pub written : text ≡ modules_text modules
