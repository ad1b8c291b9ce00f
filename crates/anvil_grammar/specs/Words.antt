-- What single tokens say: which operator, function or side, and which operators stand on one level.
use Rattle.std.specs.Prelude.{◌≡◌, ⊤, Option, Some, None}
use Rattle.anvil_lexer.specs.declared.token.Token.{Token}
use Rattle.anvil_lexer.specs.declared.token.TokenKind.{TokenKind}
use Rattle.anvil_lexer.specs.declared.token.TokenKind.TheVariants.{Key, Mark}
use Rattle.anvil_lexer.specs.declared.token.Keyword.TheVariants as key
use Rattle.anvil_lexer.specs.declared.token.Mark.TheVariants as mark
use Rattle.anvil_tree.specs.declared.expr.BinOp.{BinOp}
use Rattle.anvil_tree.specs.declared.expr.BinOp.TheVariants as operator
use Rattle.anvil_tree.specs.declared.file.Side.{Side}
use Rattle.anvil_tree.specs.declared.file.Side.TheVariants as side

-- the token is of the kind
abbrev pub Is : TokenKind → Token → Type 0
Is kind token = token.kind ≡ kind

-- the levels whose operators join two operands, from the loosest on
pub data Joining : Type 0 where
  disjunction : Joining
  exclusion : Joining
  conjunction : Joining
  comparison : Joining
  addition : Joining
  multiplication : Joining

-- the tightest level joins nothing
pub data Level : Type 0 where
  unary : Level
  joined : Joining → Level

-- the operands of a level are of the next tighter one
abbrev pub operand_level : Joining → Level
operand_level disjunction = joined exclusion
operand_level exclusion = joined conjunction
operand_level conjunction = joined comparison
operand_level comparison = joined addition
operand_level addition = joined multiplication
operand_level multiplication = unary

-- the operator of the level that a token is
abbrev pub operator_of : Joining → TokenKind → Option BinOp
operator_of disjunction (Mark mark.Bar) = Some operator.Or
operator_of exclusion (Mark mark.Caret) = Some operator.Xor
operator_of conjunction (Mark mark.Amp) = Some operator.And
operator_of comparison (Mark mark.EqEq) = Some operator.Eq
operator_of comparison (Mark mark.NotEq) = Some operator.Ne
operator_of comparison (Mark mark.Less) = Some operator.Lt
operator_of comparison (Mark mark.LessEq) = Some operator.Le
operator_of comparison (Mark mark.Greater) = Some operator.Gt
operator_of comparison (Mark mark.GreaterEq) = Some operator.Ge
operator_of addition (Mark mark.Plus) = Some operator.Add
operator_of addition (Mark mark.Minus) = Some operator.Sub
operator_of multiplication (Mark mark.Star) = Some operator.Mul
operator_of joining kind = None

-- more than one operator of the level may follow one another: all but comparisons
abbrev pub goes_on_after : Joining → Type 0
goes_on_after comparison = ⊥
goes_on_after joining = ⊤

-- the function of two operands that a keyword is
abbrev pub function_of : TokenKind → Option BinOp
function_of (Key key.Shl) = Some operator.Shl
function_of (Key key.Shr) = Some operator.Shr
function_of (Key key.Cat) = Some operator.Cat
function_of kind = None

-- the side that a keyword is
abbrev pub side_of : TokenKind → Option Side
side_of (Key key.Left) = Some side.Left
side_of (Key key.Right) = Some side.Right
side_of kind = None
