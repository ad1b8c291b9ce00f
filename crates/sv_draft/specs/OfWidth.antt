-- A whole operand of a width that is wanted, and the end of the line.
use Rattle.std.specs.Prelude.{ℕ, List, Option}
use Rattle.sv_tree.specs.declared.tree.SvOperand.{SvOperand}
use Rattle.sv_tree.specs.Module.{Module}
use Rattle.sv_lines.specs.Pieces.{◌>>=◌}
use Rattle.sv_lines.specs.Operands.{last_operand}
use Rattle.sv_lines.specs.Step.{operand_of_width}

abbrev pub last_of_width : Module → (width : ℕ) → List ℕ → Option SvOperand
last_of_width tree width text = last_operand tree text >>= operand_of_width tree width
