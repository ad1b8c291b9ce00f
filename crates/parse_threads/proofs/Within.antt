-- What a token does in an expression, it does in the thread around that: what goes on in the expression goes on above the frames of the thread, and
-- where the expression ends the act that waits for it goes on.
use Rattle.std.proofs.Common.{◌≡◌, ℕ, Bool, true, false, List, [], ◌∷◌, ◌++◌, Option, Some, None, refl}
use Rattle.std.specs.Prelude.{◌==◌, if◌then◌else◌}
use Rattle.anvil_lexer.specs.declared.token.Token.{Token}
use Rattle.anvil_lexer.specs.declared.token.TokenKind.{TokenKind}
use Rattle.anvil_lexer.specs.declared.token.TokenKind.TheVariants.{Word, Number, Literal, Mark}
use Rattle.anvil_lexer.specs.declared.token.Mark.TheVariants as mark
use Rattle.anvil_tree.specs.declared.expr.BinOp.{BinOp}
use Rattle.anvil_tree.specs.Tree as tree
use Rattle.anvil_tree.specs.Tree.{Expr, Name}
use Rattle.anvil_tree.specs.View.{expr_of}
use Rattle.anvil_grammar.specs.Words.{function_of}
use Rattle.anvil_grammar.specs.State as states
use Rattle.anvil_grammar.specs.State.{Frame, ThreadState}
use Rattle.anvil_grammar.specs.Step.{Settled, Threaded, unexpected, onward, finished, at_state, compares, node, expression_step, function_step, inner_step, operand_ends, operand_step, operator_at, operator_step, parenthesis_step, settled, strength, takes_first, thread_step_at, word_step}
use Rattle.parse_expressions.specs.Read.{Read, ends_read, function_read, inner_read, node_read, operand_read, operator_read, parenthesis_read, part_read, read_at, word_read}
use Rattle.parse_expressions.specs.Seen.{state_of}
use Rattle.parse_expressions.specs.declared.expression.State.{State}
use Rattle.parse_expressions.specs.declared.expression.State.TheVariants as in_expr
use Rattle.parse_expressions.specs.declared.expression.SliceState.TheVariants as in_slice
use Rattle.parse_threads.specs.declared.thread.ValueFrame.{ValueFrame}
use Rattle.parse_threads.specs.declared.thread.ValueFrame.TheVariants as value
use Rattle.parse_threads.specs.SeenThread.{value_frame_of}

-- the frame is that of an act that waits for an expression
abbrev pub waits_for_value : Frame → Bool
waits_for_value (states.setting at register) = true
waits_for_value (states.sending at endpoint message) = true
waits_for_value (states.deciding at) = true
waits_for_value states.evaluating = true
waits_for_value frame = false

-- the same step of a thread, with frames of the thread below
abbrev pub within : List Frame → Token → Read → Threaded
within below token unexpected = unexpected
within below token (onward begun next) = onward begun (at_state (next.stack ++ below) next.state)
within below token (finished now) = expression_step (now.stack ++ below) now.operand token.kind

abbrev settled_onto : List Frame → Settled → Settled
settled_onto below now = record { stack = now.stack ++ below; operand = now.operand }

settled_by : (strong : ℕ) (first : Bool) (stack below : List Frame) (frame : Frame) (taken operand : Expr)
    → settled strong (stack ++ below) taken ≡ settled_onto below (settled strong stack taken)
    → (if first then settled strong (stack ++ below) taken else record { stack = frame ∷ (stack ++ below); operand = operand })
    ≡ settled_onto below (if first then settled strong stack taken else record { stack = frame ∷ stack; operand = operand })
settled_by strong true stack below frame taken operand is = is
settled_by strong false stack below frame taken operand is = refl

settled_within : (strong : ℕ) (stack : List Frame) (act : Frame) (below : List Frame) (operand : Expr) → waits_for_value act ≡ true
    → settled strong (stack ++ (act ∷ below)) operand ≡ settled_onto (act ∷ below) (settled strong stack operand)
settled_within strong [] (states.setting at register) below operand is = refl
settled_within strong [] (states.sending at endpoint message) below operand is = refl
settled_within strong [] (states.deciding at) below operand is = refl
settled_within strong [] states.evaluating below operand is = refl
settled_within strong [] act below operand is = absurd cc
settled_within strong (states.inverting at ∷ stack) act below operand is = settled_within strong stack act below (tree.inverse at operand) is
settled_within strong (states.operating operator at left ∷ stack) act below operand is =
    settled_by strong (takes_first operator strong) stack (act ∷ below) (states.operating operator at left) (tree.binary at operator left operand) operand
    (settled_within strong stack act below (tree.binary at operator left operand) is)
settled_within strong (states.choosing_second at condition first ∷ stack) act below operand is =
    settled_by strong (strong == 0) stack (act ∷ below) (states.choosing_second at condition first) (tree.choice at condition first operand) operand
    (settled_within strong stack act below (tree.choice at condition first operand) is)
settled_within strong (frame ∷ stack) act below operand is = refl

compares_within : (stack : List Frame) (act : Frame) (below : List Frame) (operator : BinOp) → waits_for_value act ≡ true
    → compares (stack ++ (act ∷ below)) operator ≡ compares stack operator
compares_within [] (states.setting at register) below operator is = refl
compares_within [] (states.sending at endpoint message) below operator is = refl
compares_within [] (states.deciding at) below operator is = refl
compares_within [] states.evaluating below operator is = refl
compares_within [] act below operator is = absurd cc
compares_within (states.operating before at left ∷ stack) act below operator is = refl
compares_within (frame ∷ stack) act below operator is = refl

part_within : (stack : List Frame) (below : List Frame) (token : Token) (expr : Expr) (kind : TokenKind) → token.kind ≡ kind
    → expression_step (stack ++ below) expr kind ≡ within below token (part_read stack expr kind)
part_within [] below token expr kind is = rw is refl
part_within (states.inverting at ∷ stack) below token expr kind is = refl
part_within (states.operating operator at left ∷ stack) below token expr kind is = refl
part_within (states.grouping ∷ stack) below token expr (Mark mark.CloseParen) is = refl
part_within (states.grouping ∷ stack) below token expr kind is = refl
part_within (states.calling operator at ∷ stack) below token expr (Mark mark.Comma) is = refl
part_within (states.calling operator at ∷ stack) below token expr kind is = refl
part_within (states.calling_second operator at first ∷ stack) below token expr (Mark mark.CloseParen) is = refl
part_within (states.calling_second operator at first ∷ stack) below token expr kind is = refl
part_within (states.choosing at condition ∷ stack) below token expr (Mark mark.Colon) is = refl
part_within (states.choosing at condition ∷ stack) below token expr kind is = refl
part_within (states.choosing_second at condition first ∷ stack) below token expr kind is = refl
part_within (states.setting at register ∷ stack) below token expr kind is = rw is refl
part_within (states.sending at endpoint message ∷ stack) below token expr kind is = rw is refl
part_within (states.deciding at ∷ stack) below token expr kind is = rw is refl
part_within (states.evaluating ∷ stack) below token expr kind is = rw is refl
part_within (frame ∷ stack) below token expr kind is = refl

operates_by : (compared : Bool) (stack below : List Frame) (operand : Expr) (token : Token) (operator : BinOp)
    → (if compared then unexpected else node token (states.operating operator token.at operand ∷ (stack ++ below)) states.operand_wanted)
    ≡ within below token (if compared then unexpected else node_read token (states.operating operator token.at operand ∷ stack) states.operand_wanted)
operates_by true stack below operand token operator = refl
operates_by false stack below operand token operator = refl

chooses_by : (asked : Bool) (stack below : List Frame) (operand : Expr) (token : Token)
    → (if asked then node token (states.choosing token.at operand ∷ (stack ++ below)) states.operand_wanted else expression_step (stack ++ below) operand token.kind)
    ≡ within below token (if asked then node_read token (states.choosing token.at operand ∷ stack) states.operand_wanted else part_read stack operand token.kind)
chooses_by true stack below operand token = refl
chooses_by false stack below operand token = part_within stack below token operand token.kind refl

operator_within : (stack : List Frame) (act : Frame) (below : List Frame) (operand : Expr) (token : Token) (operator : Option BinOp) → waits_for_value act ≡ true
    → operator_step (stack ++ (act ∷ below)) operand token operator ≡ within (act ∷ below) token (operator_read stack operand token operator)
operator_within stack act below operand token (Some operator) is =
    rw (compares_within stack act below operator is) (operates_by (compares stack operator) stack (act ∷ below) operand token operator)
operator_within stack act below operand token None is = chooses_by (strength token.kind == 1) stack (act ∷ below) operand token

ends_within : (stack : List Frame) (act : Frame) (below : List Frame) (operand : Expr) (token : Token) → waits_for_value act ≡ true
    → operand_ends (stack ++ (act ∷ below)) operand token ≡ within (act ∷ below) token (ends_read stack operand token)
ends_within stack act below operand token is =
    rw (settled_within (strength token.kind) stack act below operand is)
    (operator_within (settled (strength token.kind) stack operand).stack act below (settled (strength token.kind) stack operand).operand token (operator_at token.kind) is)

function_within : (stack below : List Frame) (token : Token) (function : Option BinOp)
    → function_step (stack ++ below) token function ≡ within below token (function_read stack token function)
function_within stack below token (Some operator) = refl
function_within stack below token None = refl

operand_within : (stack below : List Frame) (token : Token) (kind : TokenKind)
    → operand_step (stack ++ below) token kind ≡ within below token (operand_read stack token kind)
operand_within stack below token (Mark mark.Tilde) = refl
operand_within stack below token (Mark mark.Star) = refl
operand_within stack below token (Literal width value) = refl
operand_within stack below token (Word name) = refl
operand_within stack below token (Mark mark.OpenParen) = refl
operand_within stack below token kind = function_within stack below token (function_of kind)

parenthesis_within : (stack below : List Frame) (at : ℕ) (token : Token) (kind : TokenKind)
    → parenthesis_step (stack ++ below) at token kind ≡ within below token (parenthesis_read stack at token kind)
parenthesis_within stack below at token (Mark mark.CloseParen) = refl
parenthesis_within stack below at token kind = operand_within (states.grouping ∷ stack) below token kind

word_within : (stack : List Frame) (act : Frame) (below : List Frame) (at : ℕ) (name : Name) (token : Token) (kind : TokenKind) → waits_for_value act ≡ true
    → word_step (stack ++ (act ∷ below)) at name token kind ≡ within (act ∷ below) token (word_read stack at name token kind)
word_within stack act below at name token (Mark mark.OpenBracket) is = refl
word_within stack act below at name token kind is = ends_within stack act below (tree.variable at name) token is

shown_within : (stack below : List Frame) (at : ℕ) (token : Token) (kind : TokenKind)
    → inner_step (stack ++ below) (states.shown_register at) token kind ≡ within below token (inner_read stack (states.shown_register at) token kind)
shown_within stack below at token (Word name) = refl
shown_within stack below at token kind = refl

call_within : (stack below : List Frame) (operator : BinOp) (at : ℕ) (token : Token) (kind : TokenKind)
    → inner_step (stack ++ below) (states.call_opening operator at) token kind ≡ within below token (inner_read stack (states.call_opening operator at) token kind)
call_within stack below operator at token (Mark mark.OpenParen) = refl
call_within stack below operator at token kind = refl

high_within : (stack below : List Frame) (at : ℕ) (name : Name) (token : Token) (kind : TokenKind)
    → inner_step (stack ++ below) (states.slice_high at name) token kind ≡ within below token (inner_read stack (states.slice_high at name) token kind)
high_within stack below at name token (Number high) = refl
high_within stack below at name token kind = refl

colon_within : (stack below : List Frame) (at : ℕ) (name : Name) (high : ℕ) (token : Token) (kind : TokenKind)
    → inner_step (stack ++ below) (states.slice_colon at name high) token kind ≡ within below token (inner_read stack (states.slice_colon at name high) token kind)
colon_within stack below at name high token (Mark mark.Colon) = refl
colon_within stack below at name high token kind = refl

low_within : (stack below : List Frame) (at : ℕ) (name : Name) (high : ℕ) (token : Token) (kind : TokenKind)
    → inner_step (stack ++ below) (states.slice_low at name high) token kind ≡ within below token (inner_read stack (states.slice_low at name high) token kind)
low_within stack below at name high token (Number low) = refl
low_within stack below at name high token kind = refl

closing_within : (stack below : List Frame) (at : ℕ) (name : Name) (high low : ℕ) (token : Token) (kind : TokenKind)
    → inner_step (stack ++ below) (states.slice_closing at name high low) token kind ≡ within below token (inner_read stack (states.slice_closing at name high low) token kind)
closing_within stack below at name high low token (Mark mark.CloseBracket) = refl
closing_within stack below at name high low token kind = refl

pub step_within : (stack : List Frame) (act : Frame) (below : List Frame) (state : State) (token : Token) → waits_for_value act ≡ true
    → thread_step_at (stack ++ (act ∷ below)) (state_of state) token ≡ within (act ∷ below) token (read_at stack (state_of state) token)
step_within stack act below in_expr.Operand token is = operand_within stack (act ∷ below) token token.kind
step_within stack act below (in_expr.ShownRegister at) token is = shown_within stack (act ∷ below) at token token.kind
step_within stack act below (in_expr.ParenthesisOpened at) token is = parenthesis_within stack (act ∷ below) at token token.kind
step_within stack act below (in_expr.CallOpening operator at) token is = call_within stack (act ∷ below) operator at token token.kind
step_within stack act below (in_expr.AfterWord at name) token is = word_within stack act below at name token token.kind is
step_within stack act below (in_expr.InSlice at name in_slice.High) token is = high_within stack (act ∷ below) at name token token.kind
step_within stack act below (in_expr.InSlice at name (in_slice.Colon high)) token is = colon_within stack (act ∷ below) at name high token token.kind
step_within stack act below (in_expr.InSlice at name (in_slice.Low high)) token is = low_within stack (act ∷ below) at name high token token.kind
step_within stack act below (in_expr.InSlice at name (in_slice.Closing high low)) token is = closing_within stack (act ∷ below) at name high low token token.kind
step_within stack act below (in_expr.AfterOperand operand) token is = ends_within stack act below (expr_of operand) token is

pub value_waits : (act : ValueFrame) → waits_for_value (value_frame_of act) ≡ true
value_waits (value.Setting at register) = refl
value_waits (value.Sending at endpoint message) = refl
value_waits (value.Deciding at) = refl
value_waits value.Evaluating = refl
