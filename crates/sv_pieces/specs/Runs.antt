-- The bytes that make a run.
use Rattle.std.specs.Prelude.{ℕ, Bool}
use Rattle.std.specs.Char.{is_ascii_digit}
use Rattle.anvil_lexer.specs.GoodName.{is_name_byte}
use Rattle.sv_lines.specs.Operands.{is_no_blank, is_operand_byte}
use Rattle.sv_pieces.specs.declared.pieces.Run.{Run}
use Rattle.sv_pieces.specs.declared.pieces.Run.TheVariants.{Name, Operand, Unbroken, Digits}

abbrev pub passes : Run → ℕ → Bool
passes Name = is_name_byte
passes Operand = is_operand_byte
passes Unbroken = is_no_blank
passes Digits = is_ascii_digit
