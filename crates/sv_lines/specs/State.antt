-- Where the reading of a text stands between two lines: the modules that are whole, and the one that is begun, as a
-- module of what has been read of it so far; and the text that has been read so far. A register has the reset 0 until
-- its own is read.
use Rattle.std.specs.Prelude.{ℕ, List, [], ◌∷◌, ◌++◌, length, take, set, zip, flat_map, slice_get, codes, Option, Some, None}
use Rattle.std.specs.List.{enumerate_from}
use Rattle.anvil_bits.specs.Number.{Number}
use Rattle.sv_tree.specs.declared.tree.SvPort.{SvPort}
use Rattle.sv_tree.specs.declared.tree.SvRegName.{SvRegName}
use Rattle.sv_tree.specs.declared.tree.SvReg.{SvReg}
use Rattle.sv_tree.specs.declared.tree.SvNet.{SvNet}
use Rattle.sv_tree.specs.declared.tree.SvOut.{SvOut}
use Rattle.sv_tree.specs.declared.tree.SvOperand.{SvOperand}
use Rattle.sv_tree.specs.declared.tree.SvOperand.TheVariants.{Lit}
use Rattle.sv_tree.specs.declared.tree.SvOp.TheVariants.{Not}
use Rattle.sv_tree.specs.Module.{Module}
use Rattle.sv_tree.specs.Text.{data_line, valid_line, port_lines, opening_lines, closing_line, register_line, net_line, net_lines, data_assign_line, out_lines, reset_line, next_line, clock_opening_lines, clock_else_line, modules_text}

-- what is wanted next in a module
pub data Wanted : Type 0 where
  clock_wanted : Wanted
  reset_wanted : Wanted
  -- the header, behind a comma or not
  port_wanted : Wanted
  closing_wanted : Wanted
  -- in a port, behind its `data` line, and behind its `valid` line
  valid_wanted : SvPort → Wanted
  ack_wanted : SvPort → Wanted
  -- a register, a net, an output, or what follows these
  item_wanted : Wanted
  -- behind the declaration of a net, and behind the `data` line of an output
  assign_wanted : (width : ℕ) → Wanted
  second_wanted : (value : SvOperand) → Wanted
  -- the clock's block: behind its first line; the reset of a register; a next value; its last line
  test_wanted : Wanted
  resets_wanted : (done : ℕ) → Wanted
  nexts_wanted : Wanted
  end_wanted : Wanted
  last_wanted : Wanted

pub data State : Type 0 where
  between : (whole : List Module) → State
  inside : (whole : List Module) (draft : Module) → Wanted → State

abbrev pub start : State
start = between []

-- Modules with one part more.

abbrev pub new_module : List ℕ → Module
new_module proc = record { proc = proc; ports = []; regs = []; nets = []; outs = []; nexts = [] }

abbrev pub with_port : Module → SvPort → Module
with_port tree port = record tree { ports = tree.ports ++ (port ∷ []) }

abbrev pub new_register : SvRegName → (width : ℕ) → SvReg
new_register name width = record { name = name; width = width; reset = record { width = width; value = 0 } }

abbrev pub with_register : Module → SvReg → Module
with_register tree reg = record tree { regs = tree.regs ++ (reg ∷ []) }

abbrev pub with_net : Module → SvNet → Module
with_net tree net = record tree { nets = tree.nets ++ (net ∷ []) }

abbrev pub with_out : Module → SvOut → Module
with_out tree out = record tree { outs = tree.outs ++ (out ∷ []) }

abbrev pub reset_to : SvReg → Number → SvReg
reset_to reg number = record { name = reg.name; width = reg.width; reset = number }

abbrev pub with_reset : Module → (index : ℕ) → SvReg → Module
with_reset tree index reg = record tree { regs = set tree.regs index reg }

abbrev pub with_next : Module → SvOperand → Module
with_next tree next = record tree { nexts = tree.nexts ++ (next ∷ []) }

-- The text that has been read of a module.

abbrev pub header_text : Module → List ℕ
header_text tree = opening_lines tree.proc ++ flat_map port_lines tree.ports

abbrev pub declared_text : Module → List ℕ
declared_text tree =
    header_text tree ++ (closing_line ++ (flat_map register_line tree.regs
    ++ flat_map (net_lines tree) (enumerate_from 0 tree.nets)))

abbrev pub items_text : Module → List ℕ
items_text tree = declared_text tree ++ flat_map (out_lines tree) (zip tree.ports tree.outs)

-- a net of this width, for its declaration
abbrev pub some_net : (width : ℕ) → SvNet
some_net width = record { width = width; op = Not (Lit (record { width = width; value = 0 })) }

-- the `data` line of a port, where there is one
abbrev pub first_line : Module → Option SvPort → SvOperand → List ℕ
first_line tree None value = []
first_line tree (Some port) value = data_assign_line tree port value

abbrev pub resets_text : Module → (done : ℕ) → List ℕ
resets_text tree done = items_text tree ++ (clock_opening_lines ++ flat_map reset_line (take done tree.regs))

abbrev pub nexts_text : Module → List ℕ
nexts_text tree =
    items_text tree ++ (clock_opening_lines ++ (flat_map reset_line tree.regs ++ (clock_else_line
    ++ flat_map (next_line tree) (zip tree.regs tree.nexts))))

unfoldable pub draft_text : Module → Wanted → List ℕ
draft_text tree clock_wanted = codes "module anvil__" ++ (tree.proc ++ codes " (\n")
draft_text tree reset_wanted = codes "module anvil__" ++ (tree.proc ++ codes " (\n  input logic clk_i,\n")
draft_text tree port_wanted = header_text tree ++ codes ",\n"
draft_text tree closing_wanted = header_text tree ++ codes "\n"
draft_text tree (valid_wanted port) = header_text tree ++ (data_line port ++ codes ",\n")
draft_text tree (ack_wanted port) = header_text tree ++ (data_line port ++ (valid_line port ++ codes ",\n"))
draft_text tree item_wanted = items_text tree
draft_text tree (assign_wanted width) = items_text tree ++ net_line (length tree.nets) (some_net width)
draft_text tree (second_wanted value) =
    items_text tree ++ first_line tree (slice_get tree.ports (length tree.outs)) value
draft_text tree test_wanted = items_text tree ++ codes "  always_ff @(posedge clk_i) begin\n"
draft_text tree (resets_wanted done) = resets_text tree done
draft_text tree nexts_wanted = nexts_text tree
draft_text tree end_wanted = nexts_text tree ++ codes "    end\n"
draft_text tree last_wanted = nexts_text tree ++ codes "    end\n  end\n"

abbrev pub text_of : State → List ℕ
text_of (between whole) = modules_text whole
text_of (inside whole draft wanted) = modules_text whole ++ draft_text draft wanted
