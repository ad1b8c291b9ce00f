-- That the numbers of a well-formed module stay below 2 to their widths, where what comes in does.
use Rattle.std.specs.Prelude.{ℕ, ◌≡◌, ◌<◌, ◌≤◌, ◌^◌, true, List, length, map, slice_get, slice_index}
use Rattle.core_term.specs.Inputs.{Inputs}
use Rattle.sv_tree.specs.declared.tree.SvOperand.{SvOperand}
use Rattle.sv_tree.specs.Module.{Module}
use Rattle.sv_tree.specs.WellFormed.{IsWellFormed, is_received, operand_stands, operand_width}
use Rattle.sv_tree.specs.Clocked.{registers_at, settled_value}

-- in each cycle of the list the data of a received port are below 2 to its width, valid or not
abbrev pub InputsFit : Module → Inputs → Type 0
InputsFit tree inputs =
    (port cycle : ℕ) → cycle < inputs.count → is_received (slice_get tree.ports port) ≡ true
    → inputs.data_at port cycle < 2 ^ slice_index (map (λ p. p.width) tree.ports) port

-- each value is below 2 to the width at its place
abbrev pub AreWithin : (widths values : List ℕ) → Type 0
AreWithin widths values = (k : ℕ) → k < length values → slice_index values k < 2 ^ slice_index widths k

-- In each cycle of the list, an operand that stands once all nets are valued shows a number below 2 to its width.
abbrev pub SettledNumbersFit : Type 0
SettledNumbersFit =
    (tree : Module) → IsWellFormed tree → (inputs : Inputs) → InputsFit tree inputs
    → (cycle : ℕ) → cycle < inputs.count → (x : SvOperand) → operand_stands tree (length tree.nets) x ≡ true
    → settled_value tree inputs cycle (registers_at tree inputs cycle) x < 2 ^ operand_width tree x

-- So do the registers, also in the cycle after the list.
abbrev pub RegistersFit : Type 0
RegistersFit =
    (tree : Module) → IsWellFormed tree → (inputs : Inputs) → InputsFit tree inputs → (cycle : ℕ) → cycle ≤ inputs.count
    → AreWithin (map (λ reg. reg.width) tree.regs) (registers_at tree inputs cycle)
