-- The reading of an expression alone, token by token: the part of the reading of a thread that asks nothing of the act
-- that waits for the expression. It ends at the token that goes on with no part of it.
use Rattle.std.specs.Prelude.{ℕ, ◌==◌, List, [], ◌∷◌, Option, Some, None, if◌then◌else◌}
use Rattle.anvil_lexer.specs.declared.token.Token.{Token}
use Rattle.anvil_lexer.specs.declared.token.TokenKind.{TokenKind}
use Rattle.anvil_lexer.specs.declared.token.TokenKind.TheVariants.{Word, Number, Literal, Mark}
use Rattle.anvil_lexer.specs.declared.token.Mark.TheVariants as mark
use Rattle.anvil_tree.specs.declared.expr.BinOp.{BinOp}
use Rattle.anvil_tree.specs.Tree as tree
use Rattle.anvil_tree.specs.Tree.{Name, Expr}
use Rattle.anvil_grammar.specs.declared.error.Counted.TheVariants as counted
use Rattle.anvil_grammar.specs.Words.{function_of}
use Rattle.anvil_grammar.specs.State as states
use Rattle.anvil_grammar.specs.State.{Frame, ThreadState, ThreadReading}
use Rattle.anvil_grammar.specs.Step.{Step, Settled, unexpected, onward, finished, quietly, begins, at_state, compares, operator_at, settled, strength}

-- what a token comes to: at the end the expression, with the frames that are no part of it
abbrev pub Read : Type 0
Read = Step ThreadReading Settled

abbrev pub reads : List Frame → ThreadState → Read
reads stack state = quietly (at_state stack state)

-- with a node at the token
abbrev pub node_read : Token → List Frame → ThreadState → Read
node_read token stack state = begins counted.Expr token (at_state stack state)

abbrev pub function_read : List Frame → Token → Option BinOp → Read
function_read stack token (Some operator) = node_read token stack (states.call_opening operator token.at)
function_read stack token None = unexpected

abbrev pub operand_read : List Frame → Token → TokenKind → Read
operand_read stack token (Mark mark.Tilde) = node_read token (states.inverting token.at ∷ stack) states.operand_wanted
operand_read stack token (Mark mark.Star) = node_read token stack (states.shown_register token.at)
operand_read stack token (Literal width value) =
    node_read token stack (states.after_operand (tree.literal token.at width value))
operand_read stack token (Word name) = node_read token stack (states.after_word token.at name)
operand_read stack token (Mark mark.OpenParen) = reads stack (states.parenthesis_opened token.at)
operand_read stack token kind = function_read stack token (function_of kind)

-- an expression is whole, and the token follows it
abbrev pub part_read : List Frame → Expr → TokenKind → Read
part_read (states.grouping ∷ stack) expr (Mark mark.CloseParen) = reads stack (states.after_operand expr)
part_read (states.calling operator at ∷ stack) expr (Mark mark.Comma) =
    reads (states.calling_second operator at expr ∷ stack) states.operand_wanted
part_read (states.calling_second operator at first ∷ stack) expr (Mark mark.CloseParen) =
    reads stack (states.after_operand (tree.binary at operator first expr))
part_read (states.choosing at condition ∷ stack) expr (Mark mark.Colon) =
    reads (states.choosing_second at condition expr ∷ stack) states.operand_wanted
part_read (states.inverting at ∷ stack) expr kind = unexpected
part_read (states.operating operator at left ∷ stack) expr kind = unexpected
part_read (states.grouping ∷ stack) expr kind = unexpected
part_read (states.calling operator at ∷ stack) expr kind = unexpected
part_read (states.calling_second operator at first ∷ stack) expr kind = unexpected
part_read (states.choosing at condition ∷ stack) expr kind = unexpected
part_read (states.choosing_second at condition first ∷ stack) expr kind = unexpected
part_read stack expr kind = finished (record { stack = stack; operand = expr })

-- an operand is whole, the frames that have it ahead of the token have taken it, and the token follows it
abbrev pub operator_read : List Frame → Expr → Token → Option BinOp → Read
operator_read stack operand token (Some operator) =
    if compares stack operator
    then unexpected
    else node_read token (states.operating operator token.at operand ∷ stack) states.operand_wanted
operator_read stack operand token None =
    if strength token.kind == 1
    then node_read token (states.choosing token.at operand ∷ stack) states.operand_wanted
    else part_read stack operand token.kind

abbrev pub settled_read : Settled → Token → Read
settled_read now token = operator_read now.stack now.operand token (operator_at token.kind)

-- an operand is whole, and the token follows it
abbrev pub ends_read : List Frame → Expr → Token → Read
ends_read stack operand token = settled_read (settled (strength token.kind) stack operand) token

abbrev pub word_read : List Frame → ℕ → Name → Token → TokenKind → Read
word_read stack at name token (Mark mark.OpenBracket) = reads stack (states.slice_high at name)
word_read stack at name token kind = ends_read stack (tree.variable at name) token

abbrev pub parenthesis_read : List Frame → ℕ → Token → TokenKind → Read
parenthesis_read stack at token (Mark mark.CloseParen) =
    onward (record { kind = counted.Expr; at = at } ∷ []) (at_state stack (states.after_operand (tree.unit at)))
parenthesis_read stack at token kind = operand_read (states.grouping ∷ stack) token kind

abbrev pub inner_read : List Frame → ThreadState → Token → TokenKind → Read
inner_read stack (states.shown_register at) token (Word name) = reads stack (states.after_operand (tree.shown at name))
inner_read stack (states.call_opening operator at) token (Mark mark.OpenParen) =
    reads (states.calling operator at ∷ stack) states.operand_wanted
inner_read stack (states.slice_high at name) token (Number high) = reads stack (states.slice_colon at name high)
inner_read stack (states.slice_colon at name high) token (Mark mark.Colon) = reads stack (states.slice_low at name high)
inner_read stack (states.slice_low at name high) token (Number low) =
    reads stack (states.slice_closing at name high low)
inner_read stack (states.slice_closing at name high low) token (Mark mark.CloseBracket) =
    reads stack (states.after_operand (tree.slice at name high low))
inner_read stack state token kind = unexpected

abbrev pub read_at : List Frame → ThreadState → Token → Read
read_at stack states.operand_wanted token = operand_read stack token token.kind
read_at stack (states.parenthesis_opened at) token = parenthesis_read stack at token token.kind
read_at stack (states.after_word at name) token = word_read stack at name token token.kind
read_at stack (states.after_operand operand) token = ends_read stack operand token
read_at stack state token = inner_read stack state token token.kind

abbrev pub expression_read : ThreadReading → Token → Read
expression_read reading token = read_at reading.stack reading.state token
