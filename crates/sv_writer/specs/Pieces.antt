-- What a piece of a line is written as, and pieces in order. The text of what a piece names is that of the emitted module.
use Rattle.std.specs.Prelude.{ℕ, List, flat_map, decimal}
use Rattle.sv_tree.specs.Module.{Module}
use Rattle.sv_tree.specs.Text.{register_text, literal_text, ref_text, operand_text}
use Rattle.sv_writer.specs.declared.pieces.Piece.{Piece}
use Rattle.sv_writer.specs.declared.pieces.Piece.TheVariants.{Text, Number, Literal, Register, Ref, Operand}

-- one piece of a line of this module
abbrev pub piece_text : Module → Piece → List ℕ
piece_text m (Text text) = text.now
piece_text m (Number number) = decimal number
piece_text m (Literal literal) = literal_text literal
piece_text m (Register name) = register_text name.now
piece_text m (Ref ref) = ref_text m ref
piece_text m (Operand operand) = operand_text m operand

-- one after the other
abbrev pub pieces_text : Module → List Piece → List ℕ
pieces_text m pieces = flat_map (piece_text m) pieces
