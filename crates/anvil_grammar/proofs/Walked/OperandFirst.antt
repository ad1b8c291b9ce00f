-- An expression begins with `~`, `*`, `(`, a literal, a word or the name of a function: so with no `)`, no `{` and no keyword of
-- acts. What begins so is read as an operand behind `(` and where an act may stand.
use Rattle.std.proofs.Common.{◌≡◌, ℕ, List, [], ◌∷◌, Bool, true, false, Some, refl}
use Rattle.anvil_lexer.specs.declared.token.Token.{Token}
use Rattle.anvil_lexer.specs.declared.token.TokenKind.{TokenKind}
use Rattle.anvil_lexer.specs.declared.token.TokenKind.TheVariants.{Key, Word, Literal, Mark}
use Rattle.anvil_lexer.specs.declared.token.Keyword.TheVariants as key
use Rattle.anvil_lexer.specs.declared.token.Mark.TheVariants as mark
use Rattle.anvil_tree.specs.declared.expr.BinOp.{BinOp}
use Rattle.anvil_tree.specs.Tree.{Expr}
use Rattle.anvil_grammar.specs.Words.{Level, function_of}
use Rattle.anvil_grammar.specs.Grammar.{IsUnary, inverse, shown, literal, variable, slice, function, unit, grouped, IsAt, alone, begun, IsExpr, plain, choice}
use Rattle.anvil_grammar.specs.State.{Frame, grouping, call_opening}
use Rattle.anvil_grammar.specs.Step.{node, operand_step, parenthesis_step}

abbrev pub starts_operand : TokenKind → Bool
starts_operand (Mark mark.Tilde) = true
starts_operand (Mark mark.Star) = true
starts_operand (Mark mark.OpenParen) = true
starts_operand (Literal width value) = true
starts_operand (Word name) = true
starts_operand (Key key.Shl) = true
starts_operand (Key key.Shr) = true
starts_operand (Key key.Cat) = true
starts_operand kind = false

-- the first token starts an operand
abbrev pub BeginsOperand : List Token → Type 0
BeginsOperand [] = ⊥
BeginsOperand (token ∷ rest) = starts_operand token.kind ≡ true

function_starts : (kind : TokenKind) (operator : BinOp) → function_of kind ≡ Some operator → starts_operand kind ≡ true
function_starts (Key key.Shl) operator is = refl
function_starts (Key key.Shr) operator is = refl
function_starts (Key key.Cat) operator is = refl
function_starts kind operator is = absurd cc

unary_begins : {from rest : List Token} {expr : Expr} → IsUnary from expr rest → BeginsOperand from
unary_begins (inverse is operand) = rw is refl
unary_begins (shown is is_word) = rw is refl
unary_begins (literal is) = rw is refl
unary_begins (variable is) = rw is refl
unary_begins (slice is a b c d e) = rw is refl
unary_begins (function {word = word} {operator = operator} is a b c d e) = function_starts word.kind operator is
unary_begins (unit is is_closing) = rw is refl
unary_begins (grouped is inner is_closing) = rw is refl

level_begins : {level : Level} {from rest : List Token} {expr : Expr} → IsAt level from expr rest → BeginsOperand from
level_begins (alone first) = unary_begins first
level_begins (begun first others) = level_begins first

pub expr_begins : {from rest : List Token} {expr : Expr} → IsExpr from expr rest → BeginsOperand from
expr_begins (plain first) = level_begins first
expr_begins (choice first a b c d) = level_begins first

-- behind `(` an operand is one of a group
pub group_step : (stack : List Frame) (at : ℕ) (token : Token) (kind : TokenKind) → starts_operand kind ≡ true
    → parenthesis_step stack at token kind ≡ operand_step (grouping ∷ stack) token kind
group_step stack at token (Mark mark.CloseParen) starts = absurd cc
group_step stack at token kind starts = refl

-- the name of a function waits for its `(`
pub function_step_taken : (stack : List Frame) (token : Token) (kind : TokenKind) (operator : BinOp) → function_of kind ≡ Some operator
    → operand_step stack token kind ≡ node token stack (call_opening operator token.at)
function_step_taken stack token (Key word) operator is = rw is refl
function_step_taken stack token kind operator is = absurd cc
