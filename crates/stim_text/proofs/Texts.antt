-- The text at an index of a line, and how it is put together of its pieces.
use Rattle.std.proofs.Common.{◌≡◌, ℕ, ◌+◌, ◌<◌, Bool, false, List, [], ◌∷◌, ◌++◌, length, get_or, zero, suc, refl, sym, ◌∙◌, ap, arith, append_assoc}
use Rattle.std.specs.Prelude.{codes, decimal}
use Rattle.anvil_bits.specs.Number.{Number}
use Rattle.core_term.specs.declared.process.CorePort.{CorePort}
use Rattle.core_term.specs.declared.process.CoreReg.{CoreReg}
use Rattle.core_term.specs.declared.rows.InCell.{InCell}
use Rattle.core_term.specs.declared.rows.OutCell.{OutCell}
use Rattle.core_term.specs.LogText.{bit_text, data_text}
use Rattle.stim_text.specs.LogLine.{PortWires, wires_at, field_of, fields_of, number_field, number_fields, gap, gapped, name_text, wires_text}

pub port_text : (index : ℕ) (port : CorePort) (wires : PortWires) (shown : Bool) → wires_text index port wires ++ data_text port.received shown wires.number.value ≡ gapped (index, field_of port shown wires)
port_text index port wires shown = simp append_assoc

pub register_text : (index : ℕ) (reg : CoreReg) (number : Number) → name_text index reg ++ decimal number.value ≡ gapped (index, number_field reg number)
register_text index reg number = simp append_assoc

pub field_at : (ports : List CorePort) (cells : List InCell) (outs : List OutCell) (shown : List Bool) (index : ℕ) (port : CorePort) (cell : InCell) (out : OutCell) (on : Bool) (default : List ℕ)
    → length cells ≡ length ports → length outs ≡ length ports → length shown ≡ length ports → index < length ports
    → port ≡ get_or ports index port → cell ≡ get_or cells index cell → out ≡ get_or outs index out → on ≡ get_or shown index false
    → field_of port on (wires_at cell out) ≡ get_or (fields_of ports cells outs shown) index default
field_at [] cells outs shown index port cell out on default a b c less e f g h = absurd (omega arith)
field_at (p ∷ ports) [] outs shown index port cell out on default a b c less e f g h = absurd (omega arith)
field_at (p ∷ ports) (x ∷ cells) [] shown index port cell out on default a b c less e f g h = absurd (omega arith)
field_at (p ∷ ports) (x ∷ cells) (y ∷ outs) [] index port cell out on default a b c less e f g h = absurd (omega arith)
field_at (p ∷ ports) (x ∷ cells) (y ∷ outs) (z ∷ shown) zero port cell out on default a b c less e f g h = rw (← e, ← f, ← g, ← h) refl
field_at (p ∷ ports) (x ∷ cells) (y ∷ outs) (z ∷ shown) (suc index) port cell out on default a b c less e f g h =
    field_at ports cells outs shown index port cell out on default (omega arith) (omega arith) (omega arith) (omega arith) e f g h

pub number_at : (regs : List CoreReg) (numbers : List Number) (index : ℕ) (reg : CoreReg) (number : Number) (default : List ℕ) → length numbers ≡ length regs → index < length regs → reg ≡ get_or regs index reg → number ≡ get_or numbers index number
    → number_field reg number ≡ get_or (number_fields regs numbers) index default
number_at [] numbers index reg number default a less e f = absurd (omega arith)
number_at (r ∷ regs) [] index reg number default a less e f = absurd (omega arith)
number_at (r ∷ regs) (n ∷ numbers) zero reg number default a less e f = rw (← e, ← f) refl
number_at (r ∷ regs) (n ∷ numbers) (suc index) reg number default a less e f = number_at regs numbers index reg number default (omega arith) (omega arith) e f

pub numbers_count : (regs : List CoreReg) (numbers : List Number) → length numbers ≡ length regs → length (number_fields regs numbers) ≡ length regs
numbers_count [] numbers a = refl
numbers_count (r ∷ regs) [] a = absurd (omega arith)
numbers_count (r ∷ regs) (n ∷ numbers) a = ap suc (numbers_count regs numbers (omega arith))

-- the first text has the number 0
pub from_zero : (index : ℕ) (text : List ℕ) → gapped (index, text) ≡ gapped (0 + index, text)
from_zero index text = ap (λ n. gap n ++ text) (omega arith)
