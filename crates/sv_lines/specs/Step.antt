-- The reading of a text line by line: what each line comes to, by what is wanted next, or that it cannot stand there.
-- It computes, and stands between the text of a module and the code: what is printed is read, and what is read is what
-- is printed.
use Rattle.std.specs.Prelude.{ℕ, ◌+◌, ◌==◌, nat_lt, Bool, true, false, not, ◌&&◌, List, [], ◌∷◌, ◌++◌, length, map, slice_get, bytes_eq, codes, Option, Some, None, if◌then◌else◌}
use Rattle.std.specs.List.{list_any}
use Rattle.anvil_bits.specs.Number.{Number}
use Rattle.sv_tree.specs.declared.tree.SvPort.{SvPort}
use Rattle.sv_tree.specs.declared.tree.SvRegName.{SvRegName}
use Rattle.sv_tree.specs.declared.tree.SvRegName.TheVariants as register
use Rattle.sv_tree.specs.declared.tree.SvReg.{SvReg}
use Rattle.sv_tree.specs.declared.tree.SvOperand.{SvOperand}
use Rattle.sv_tree.specs.declared.tree.SvOp.{SvOp}
use Rattle.sv_tree.specs.declared.tree.SvOut.TheVariants.{Received, Sent}
use Rattle.sv_tree.specs.Limits.{too_many}
use Rattle.sv_tree.specs.Module.{Module}
use Rattle.sv_tree.specs.WellFormed.{is_port_name, is_same_port, is_same_register, register_names, operand_width}
use Rattle.sv_lines.specs.declared.wire.Wire.{Wire}
use Rattle.sv_lines.specs.declared.wire.Wire.TheVariants as wire
use Rattle.sv_lines.specs.Pieces.{◌>>=◌, after, closed, front_run, after_run, number_at}
use Rattle.sv_lines.specs.Lines.{comma_of, wire_word, WireLine, wire_line, Label, source, state, net, Declared, declaration, opening}
use Rattle.sv_lines.specs.Operands.{literal_of, is_operand_byte, last_operand, op_of, widths_fit}
use Rattle.sv_lines.specs.State.{Wanted, clock_wanted, reset_wanted, port_wanted, closing_wanted, valid_wanted, ack_wanted, item_wanted, assign_wanted, second_wanted, test_wanted, resets_wanted, nexts_wanted, end_wanted, last_wanted, State, between, inside, new_module, with_port, new_register, with_register, with_net, with_out, reset_to, with_reset, with_next}

-- what a line comes to in a module
pub data Reached : Type 0 where
  onward : Module → Wanted → Reached
  finished : Module → Reached

-- a line that is always the same
abbrev pub fixed : (wanted : List ℕ) → Module → Wanted → List ℕ → Option Reached
fixed wanted draft next line = if bytes_eq line wanted then Some (onward draft next) else None

-- whether one part more leaves room: counts stay below the limit
abbrev pub has_room : ℕ → Bool
has_room count = nat_lt (count + 1) too_many

-- The header.

abbrev pub header_wanted : (comma : Bool) → Wanted
header_wanted true = port_wanted
header_wanted false = closing_wanted

abbrev pub reset_step : Module → List ℕ → Option Reached
reset_step draft line =
    after (codes "  input logic rst_ni") line >>= (λ rest. comma_of rest
    >>= (λ comma. Some (onward draft (header_wanted comma))))

abbrev pub port_of : WireLine → SvPort
port_of line = record { endpoint = line.endpoint; message = line.message; received = line.comes_in; width = line.width }

abbrev pub is_data : WireLine → Bool
is_data line = bytes_eq (wire_word line.wire) (wire_word wire.Data) && line.comma

-- a port with good names that no other has
abbrev pub may_add : Module → SvPort → Bool
may_add draft port =
    is_port_name port && not (list_any (is_same_port port) draft.ports) && has_room (length draft.ports)

abbrev pub port_by : Module → WireLine → Option Reached
port_by draft line =
    if is_data line && may_add draft (port_of line) then Some (onward draft (valid_wanted (port_of line))) else None

abbrev pub port_step : Module → List ℕ → Option Reached
port_step draft line = wire_line line >>= port_by draft

-- a line of the port for the wire, of one bit
abbrev pub is_same_way : Bool → Bool → Bool
is_same_way true way = way
is_same_way false way = not way

abbrev pub is_wire_of : SvPort → Wire → (comes_in : Bool) → WireLine → Bool
is_wire_of port wire comes_in line =
    bytes_eq (wire_word line.wire) (wire_word wire) && is_same_way comes_in line.comes_in && (line.width == 1)
    && bytes_eq line.endpoint port.endpoint && bytes_eq line.message port.message

abbrev pub valid_by : Module → SvPort → WireLine → Option Reached
valid_by draft port line =
    if is_wire_of port wire.Valid port.received line && line.comma then Some (onward draft (ack_wanted port))
    else None

abbrev pub valid_step : Module → SvPort → List ℕ → Option Reached
valid_step draft port line = wire_line line >>= valid_by draft port

-- behind a comma there must be room for a port
abbrev pub may_end : (count : ℕ) → (comma : Bool) → Bool
may_end count true = has_room count
may_end count false = true

abbrev pub added : Module → SvPort → (comma : Bool) → Option Reached
added draft port comma = if may_add draft port then Some (onward (with_port draft port) (header_wanted comma)) else None

abbrev pub ack_by : Module → SvPort → WireLine → Option Reached
ack_by draft port line =
    if is_wire_of port wire.Ack (not port.received) line && may_end (length draft.ports + 1) line.comma
    then added draft port line.comma else None

abbrev pub ack_step : Module → SvPort → List ℕ → Option Reached
ack_step draft port line = wire_line line >>= ack_by draft port

-- Registers and nets.

-- how many registers are states
abbrev pub state_count : List SvRegName → ℕ
state_count [] = 0
state_count (register.Source name ∷ rest) = state_count rest
state_count (register.State number ∷ rest) = state_count rest + 1

abbrev pub is_empty : {X : Type 0} → List X → Bool
is_empty [] = true
is_empty (x ∷ rest) = false

-- a register may be declared before the nets, once
abbrev pub is_fresh : Module → SvRegName → Bool
is_fresh draft name = not (list_any (is_same_register name) (register_names draft))

abbrev pub register_by : Module → SvRegName → (width : ℕ) → (may_stand : Bool) → Option Reached
register_by draft name width may_stand =
    if may_stand && is_empty draft.nets && has_room (length draft.regs) && is_fresh draft name
    then Some (onward (with_register draft (new_register name width)) item_wanted)
    else None

abbrev pub declared_by : Module → (width : ℕ) → Label → Option Reached
declared_by draft width (source name) =
    register_by draft (register.Source name) width (state_count (register_names draft) == 0)
declared_by draft width (state number) =
    register_by draft (register.State number) width (number == state_count (register_names draft))
declared_by draft width (net number) =
    if (number == length draft.nets) && has_room (length draft.nets) then Some (onward draft (assign_wanted width))
    else None

abbrev pub declared_step : Module → Declared → Option Reached
declared_step draft declared = if is_empty draft.outs then declared_by draft declared.width declared.label else None

abbrev pub net_by : Module → (width number : ℕ) → SvOp → Option Reached
net_by draft width number op =
    if (number == length draft.nets) && has_room (length draft.nets) && widths_fit draft width op
    then Some (onward (with_net draft (record { width = width; op = op })) item_wanted)
    else None

abbrev pub assign_step : Module → (width : ℕ) → List ℕ → Option Reached
assign_step draft width line =
    after (codes "  assign n__") line >>= (λ rest. number_at rest >>= (λ number. after (codes " = ") number.1
    >>= (λ text.
    op_of draft text >>= net_by draft width number.0)))

-- Outputs.

-- the operand of this width that a wire of the port is given
abbrev pub operand_of_width : Module → (width : ℕ) → SvOperand → Option SvOperand
operand_of_width draft width x = if operand_width draft x == width then Some x else None

-- what stands behind `assign E__M__W = `
abbrev pub assigned : SvPort → Wire → List ℕ → Option (List ℕ)
assigned port wire line =
    after (codes "  assign ") line >>= (λ rest. after port.endpoint rest >>= (λ rest. after (codes "__") rest
    >>= (λ rest.
    after port.message rest >>= (λ rest. after (codes "__") rest >>= (λ rest. after (wire_word wire) rest
    >>= after (codes " = "))))))

abbrev pub given : Module → SvPort → Wire → (width : ℕ) → List ℕ → Option SvOperand
given draft port wire width line =
    assigned port wire line >>= (λ rest. last_operand draft rest >>= operand_of_width draft width)

abbrev pub output_by : Module → (received : Bool) → SvPort → List ℕ → Option Reached
output_by draft true port line =
    given draft port wire.Ack 1 line >>= (λ x. Some (onward (with_out draft (Received x)) item_wanted))
output_by draft false port line =
    given draft port wire.Data port.width line >>= (λ x. Some (onward draft (second_wanted x)))

-- behind the outputs
abbrev pub clock_or_end : Module → (has_no_registers : Bool) → List ℕ → Option Reached
clock_or_end draft true line = if bytes_eq line (codes "endmodule") then Some (finished draft) else None
clock_or_end draft false line = fixed (codes "  always_ff @(posedge clk_i) begin") draft test_wanted line

abbrev pub output_step : Module → Option SvPort → List ℕ → Option Reached
output_step draft (Some port) line = output_by draft port.received port line
output_step draft None line = clock_or_end draft (is_empty draft.regs) line

abbrev pub item_by : Module → List ℕ → Option Declared → Option Reached
item_by draft line (Some declared) = declared_step draft declared
item_by draft line None = output_step draft (slice_get draft.ports (length draft.outs)) line

abbrev pub item_step : Module → List ℕ → Option Reached
item_step draft line = item_by draft line (declaration line)

abbrev pub second_step : Module → (value : SvOperand) → Option SvPort → List ℕ → Option Reached
second_step draft value None line = None
second_step draft value (Some port) line =
    given draft port wire.Valid 1 line >>= (λ x. Some (onward (with_out draft (Sent value x)) item_wanted))

-- The clock's block.

abbrev pub after_register : SvRegName → List ℕ → Option (List ℕ)
after_register (register.Source name) text = after name text >>= after (codes "__q")
after_register (register.State number) text =
    after (codes "s__") text >>= (λ rest. number_at rest >>= (λ found. if found.0 == number then Some found.1
    else None))

-- what is written behind `R <= `
abbrev pub written : SvRegName → List ℕ → Option (List ℕ)
written name line = after (codes "      ") line >>= (λ rest. after_register name rest >>= after (codes " <= "))

abbrev pub last_literal : List ℕ → Option Number
last_literal text =
    literal_of (front_run is_operand_byte text)
    >>= (λ number. closed (codes ";") number (after_run is_operand_byte text))

abbrev pub reset_by : Module → (done : ℕ) → SvReg → Number → Option Reached
reset_by draft done reg number =
    if number.width == reg.width
    then Some (onward (with_reset draft done (reset_to reg number)) (resets_wanted (done + 1))) else None

abbrev pub reset_value_step : Module → (done : ℕ) → Option SvReg → List ℕ → Option Reached
reset_value_step draft done (Some reg) line =
    written reg.name line >>= (λ text. last_literal text >>= reset_by draft done reg)
reset_value_step draft done None line = fixed (codes "    end else begin") draft nexts_wanted line

abbrev pub next_value : Module → SvReg → List ℕ → Option SvOperand
next_value draft reg line =
    written reg.name line >>= (λ text. last_operand draft text >>= operand_of_width draft reg.width)

abbrev pub next_value_step : Module → Option SvReg → List ℕ → Option Reached
next_value_step draft (Some reg) line =
    next_value draft reg line >>= (λ x. Some (onward (with_next draft x) nexts_wanted))
next_value_step draft None line = fixed (codes "    end") draft end_wanted line

-- Modules.

abbrev pub draft_step : Module → Wanted → List ℕ → Option Reached
draft_step draft clock_wanted line = fixed (codes "  input logic clk_i,") draft reset_wanted line
draft_step draft reset_wanted line = reset_step draft line
draft_step draft port_wanted line = port_step draft line
draft_step draft closing_wanted line = fixed (codes ");") draft item_wanted line
draft_step draft (valid_wanted port) line = valid_step draft port line
draft_step draft (ack_wanted port) line = ack_step draft port line
draft_step draft item_wanted line = item_step draft line
draft_step draft (assign_wanted width) line = assign_step draft width line
draft_step draft (second_wanted value) line = second_step draft value (slice_get draft.ports (length draft.outs)) line
draft_step draft test_wanted line = fixed (codes "    if (!rst_ni) begin") draft (resets_wanted 0) line
draft_step draft (resets_wanted done) line = reset_value_step draft done (slice_get draft.regs done) line
draft_step draft nexts_wanted line = next_value_step draft (slice_get draft.regs (length draft.nexts)) line
draft_step draft end_wanted line = fixed (codes "  end") draft last_wanted line
draft_step draft last_wanted line = if bytes_eq line (codes "endmodule") then Some (finished draft) else None

-- a module of a name that no earlier one has
abbrev pub begun : List Module → List ℕ → Option State
begun whole name =
    if list_any (bytes_eq name) (map (λ tree. tree.proc) whole) then None
    else Some (inside whole (new_module name) clock_wanted)

abbrev pub state_after : List Module → Reached → State
state_after whole (onward draft wanted) = inside whole draft wanted
state_after whole (finished draft) = between (whole ++ (draft ∷ []))

abbrev pub step : State → List ℕ → Option State
step (between whole) line = opening line >>= begun whole
step (inside whole draft wanted) line = draft_step draft wanted line >>= (λ reached. Some (state_after whole reached))

-- Texts: the lines are read one after the other; a last piece without a line feed is left over.
pub data Outcome : Type 0 where
  -- the state behind all lines, and the piece that is left
  read_to_end : State → (left : List ℕ) → Outcome
  -- the place of the line that cannot stand
  stopped : ℕ → Outcome

abbrev pub line_read : (place : ℕ) → Option State → (next : State → Outcome) → Outcome
line_read place None next = stopped place
line_read place (Some reached) next = next reached

-- `line` is the piece since the last line feed, and `place` the place where it begins
abbrev pub read_on : State → (place : ℕ) → (line text : List ℕ) → Outcome
read_on from place line [] = read_to_end from line
read_on from place line (byte ∷ text) =
    elim (byte == 10) [
      | true ↦ line_read place (step from line) (λ next. read_on next (place + length line + 1) [] text)
      | false ↦ read_on from place (line ++ (byte ∷ [])) text
    ]
