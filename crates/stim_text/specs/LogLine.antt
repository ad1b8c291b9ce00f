-- A line of a log as the code puts it: of a row of inputs, a row of outputs and what a watch shows.
use Rattle.std.specs.Prelude.{ℕ, Bool, false, List, [], ◌∷◌, ◌++◌, length, zero, suc, flat_map, codes, decimal}
use Rattle.std.specs.List.{enumerate_from}
use Rattle.anvil_bits.specs.Number.{Number}
use Rattle.core_term.specs.declared.process.CorePort.{CorePort}
use Rattle.core_term.specs.declared.process.CoreReg.{CoreReg}
use Rattle.core_term.specs.declared.rows.InCell.{InCell}
use Rattle.core_term.specs.declared.rows.InCell.TheVariants as incoming
use Rattle.core_term.specs.declared.rows.OutCell.{OutCell}
use Rattle.core_term.specs.declared.rows.OutCell.TheVariants as outgoing
use Rattle.core_term.specs.LogText.{bit_text, data_text}
use Rattle.core_term.specs.Rows.{number_of}

-- the three wires of a port in a cycle
pub record PortWires : Type 0 where
  pub valid : Bool
  pub ack : Bool
  pub number : Number

-- of a port whose two cells have one direction
abbrev pub wires_at : InCell → OutCell → PortWires
wires_at (incoming.Received valid v) (outgoing.Received ack) = record { valid = valid; ack = ack; number = v }
wires_at (incoming.Received valid v) (outgoing.Sent other w) = record { valid = valid; ack = false; number = v }
wires_at (incoming.Sent ack) (outgoing.Received other) = record { valid = false; ack = ack; number = number_of 1 0 }
wires_at (incoming.Sent ack) (outgoing.Sent valid v) = record { valid = valid; ack = ack; number = v }

abbrev pub field_of : CorePort → Bool → PortWires → List ℕ
field_of port shown wires =
    port.endpoint ++ (codes "." ++ (port.message ++ (codes "=v" ++ (bit_text wires.valid ++ (codes "a" ++ (bit_text wires.ack ++ (codes "d" ++ data_text port.received shown wires.number.value)))))))

abbrev pub fields_of : List CorePort → List InCell → List OutCell → List Bool → List (List ℕ)
fields_of [] cells outs shown = []
fields_of (port ∷ ports) [] outs shown = []
fields_of (port ∷ ports) (cell ∷ cells) [] shown = []
fields_of (port ∷ ports) (cell ∷ cells) (out ∷ outs) [] = []
fields_of (port ∷ ports) (cell ∷ cells) (out ∷ outs) (on ∷ shown) = field_of port on (wires_at cell out) ∷ fields_of ports cells outs shown

abbrev pub number_field : CoreReg → Number → List ℕ
number_field reg number = reg.name ++ (codes "=" ++ decimal number.value)

abbrev pub number_fields : List CoreReg → List Number → List (List ℕ)
number_fields [] numbers = []
number_fields (reg ∷ regs) [] = []
number_fields (reg ∷ regs) (number ∷ numbers) = number_field reg number ∷ number_fields regs numbers

-- the text of the number index of a line: a space stands before each but the first
abbrev pub gap : (index : ℕ) → List ℕ
gap zero = []
gap (suc index) = codes " "

abbrev pub gapped : ℕ × List ℕ → List ℕ
gapped (index, text) = gap index ++ text

-- a port's field up to its data, with the space before it
abbrev pub wires_text : ℕ → CorePort → PortWires → List ℕ
wires_text index port wires =
    gap index ++ (port.endpoint ++ (codes "." ++ (port.message ++ (codes "=v" ++ (bit_text wires.valid ++ (codes "a" ++ (bit_text wires.ack ++ codes "d")))))))

-- a register's field up to its number, with the space before it
abbrev pub name_text : ℕ → CoreReg → List ℕ
name_text index reg = gap index ++ (reg.name ++ codes "=")

abbrev pub gapped_from : ℕ → List (List ℕ) → List ℕ
gapped_from index texts = flat_map gapped (enumerate_from index texts)

abbrev pub line_of : List CorePort → List CoreReg → List InCell → List OutCell → List Number → List Bool → List ℕ
line_of ports regs cells outs numbers shown = gapped_from 0 (fields_of ports cells outs shown) ++ (gapped_from (length ports) (number_fields regs numbers) ++ codes "\n")
