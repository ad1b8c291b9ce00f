-- The reading of a file token by token: what each token does at each state. It computes, and stands between the grammar
-- and the code: what the grammar calls a file is read, and what is read is one.
use Rattle.std.specs.Prelude.{ℕ, ◌==◌, ◌&&◌, ◌||◌, not, nat_lt, Bool, false, List, [], ◌∷◌, ◌++◌, Option, Some, None, if◌then◌else◌}
use Rattle.anvil_lexer.specs.declared.token.Token.{Token}
use Rattle.anvil_lexer.specs.declared.token.TokenKind.{TokenKind}
use Rattle.anvil_lexer.specs.declared.token.TokenKind.TheVariants.{Key, Word, Number, Literal, Mark, End}
use Rattle.anvil_lexer.specs.declared.token.Keyword.TheVariants as key
use Rattle.anvil_lexer.specs.declared.token.Mark.TheVariants as mark
use Rattle.anvil_tree.specs.declared.expr.BinOp.{BinOp}
use Rattle.anvil_tree.specs.declared.expr.BinOp.TheVariants as sign
use Rattle.anvil_tree.specs.declared.file.Side.{Side}
use Rattle.anvil_tree.specs.declared.file.Endpoint.{Endpoint}
use Rattle.anvil_tree.specs.declared.file.Message.{Message}
use Rattle.anvil_tree.specs.declared.file.Register.{Register}
use Rattle.anvil_tree.specs.declared.file.LifeText.{LifeText}
use Rattle.anvil_tree.specs.declared.file.LifeText.TheVariants.{Cycles, Until}
use Rattle.anvil_tree.specs.declared.file.LiteralText.{LiteralText}
use Rattle.anvil_tree.specs.Tree as tree
use Rattle.anvil_tree.specs.Tree.{Name, Expr, Term, Act, Class, Process, Item, File}
use Rattle.anvil_tree.specs.Places.{place_of_expr}
use Rattle.anvil_grammar.specs.declared.error.Counted.{Counted}
use Rattle.anvil_grammar.specs.declared.error.Counted.TheVariants as counted
use Rattle.anvil_grammar.specs.Words.{function_of, side_of}
use Rattle.anvil_grammar.specs.Begun.{Begin}
use Rattle.anvil_grammar.specs.State as states
use Rattle.anvil_grammar.specs.State.{Label, Width, WidthState, MessageState, ClassDraft, ClassState, Frame, ThreadState, ThreadReading, EndpointState, RegisterState, ProcessDraft, ProcessState, State}

-- what a token comes to: it cannot stand there, or something begins and the reading goes on, or the part is whole
pub data Step (P R : Type 0) : Type 0 where
  unexpected : Step P R
  onward : List Begin → P → Step P R
  finished : R → Step P R

-- the step of a part, as a step of what holds it
abbrev pub within : {P R Q S : Type 0} → (P → Q) → (R → Step Q S) → Step P R → Step Q S
within inside outside unexpected = unexpected
within inside outside (onward begun next) = onward begun (inside next)
within inside outside (finished result) = outside result

-- with no thing begun
abbrev pub quietly : {P R : Type 0} → P → Step P R
quietly next = onward [] next

-- with a thing begun at the token
abbrev pub begins : {P R : Type 0} → Counted → Token → P → Step P R
begins kind token next = onward (record { kind = kind; at = token.at } ∷ []) next

abbrev pub labelled : Name → Token → Label
labelled name token = record { name = name; at = token.at }

abbrev pub width_step_by : WidthState → Token → TokenKind → Step WidthState Width
width_step_by states.logic_wanted token (Key key.Logic) = quietly states.width_opening
width_step_by states.width_opening token (Mark mark.OpenBracket) = quietly states.width_number
width_step_by states.width_number token (Number width) =
    quietly (states.width_closing (record { width = width; width_at = token.at }))
width_step_by (states.width_closing width) token (Mark mark.CloseBracket) = finished width
width_step_by state token kind = unexpected

abbrev pub width_step : WidthState → Token → Step WidthState Width
width_step state token = width_step_by state token token.kind

-- Classes.

abbrev pub message_of : Side → Label → Width → LifeText → ℕ → Message
message_of side label width life life_at =
    record {
      toward = side;
      name = label.name;
      at = label.at;
      width = width.width;
      width_at = width.width_at;
      life = life;
      life_at = life_at;
    }

abbrev pub message_step_by : MessageState → Token → TokenKind → Step MessageState Message
message_step_by (states.message_name side) token (Word name) = quietly (states.message_colon side (labelled name token))
message_step_by (states.message_colon side label) token (Mark mark.Colon) = quietly (states.message_opening side label)
message_step_by (states.message_opening side label) token (Mark mark.OpenParen) =
    quietly (states.message_width side label states.logic_wanted)
message_step_by (states.message_width side label state) token kind =
    within (states.message_width side label) (λ width. quietly (states.message_at side label width))
    (width_step_by state token kind)
message_step_by (states.message_at side label width) token (Mark mark.At) =
    quietly (states.message_life side label width)
message_step_by (states.message_life side label width) token (Mark mark.Hash) =
    quietly (states.message_count side label width)
message_step_by (states.message_life side label width) token (Word name) =
    quietly (states.message_closing (message_of side label width (Until name) token.at))
message_step_by (states.message_count side label width) token (Number count) =
    quietly (states.message_closing (message_of side label width (Cycles count) token.at))
message_step_by (states.message_closing message) token (Mark mark.CloseParen) = finished message
message_step_by state token kind = unexpected

abbrev pub message_step : MessageState → Token → Step MessageState Message
message_step state token = message_step_by state token token.kind

abbrev pub class_of_draft : ClassDraft → Class
class_of_draft draft = record { name = draft.label.name; at = draft.label.at; messages = draft.messages }

abbrev pub with_message : ClassDraft → Message → ClassDraft
with_message draft message = record draft { messages = draft.messages ++ (message ∷ []) }

-- a message begins with its side
abbrev pub side_step : ClassDraft → Token → Option Side → Step ClassState Class
side_step draft token (Some side) = begins counted.Message token (states.in_message draft (states.message_name side))
side_step draft token None = unexpected

abbrev pub class_step_by : ClassState → Token → TokenKind → Step ClassState Class
class_step_by states.class_name token (Word name) = quietly (states.class_opening (labelled name token))
class_step_by (states.class_opening label) token (Mark mark.OpenBrace) =
    quietly (states.first_message (record { label = label; messages = [] }))
class_step_by (states.first_message draft) token kind = side_step draft token (side_of kind)
class_step_by (states.in_message draft state) token kind =
    within (states.in_message draft) (λ message. quietly (states.after_message (with_message draft message)))
    (message_step state token)
class_step_by (states.after_message draft) token (Mark mark.Comma) = quietly (states.after_comma draft)
class_step_by (states.after_message draft) token (Mark mark.CloseBrace) = finished (class_of_draft draft)
class_step_by (states.after_comma draft) token (Mark mark.CloseBrace) = finished (class_of_draft draft)
class_step_by (states.after_comma draft) token kind = side_step draft token (side_of kind)
class_step_by state token kind = unexpected

abbrev pub class_step : ClassState → Token → Step ClassState Class
class_step state token = class_step_by state token token.kind

-- Expressions.

-- How strongly a token goes on with the expression before it: the operators by their levels, then `?`, then all else.
abbrev pub strength : TokenKind → ℕ
strength (Mark mark.Star) = 7
strength (Mark mark.Plus) = 6
strength (Mark mark.Minus) = 6
strength (Mark mark.EqEq) = 5
strength (Mark mark.NotEq) = 5
strength (Mark mark.Less) = 5
strength (Mark mark.LessEq) = 5
strength (Mark mark.Greater) = 5
strength (Mark mark.GreaterEq) = 5
strength (Mark mark.Amp) = 4
strength (Mark mark.Caret) = 3
strength (Mark mark.Bar) = 2
strength (Mark mark.Question) = 1
strength kind = 0

-- the operator that a token is
abbrev pub operator_at : TokenKind → Option BinOp
operator_at (Mark mark.Star) = Some sign.Mul
operator_at (Mark mark.Plus) = Some sign.Add
operator_at (Mark mark.Minus) = Some sign.Sub
operator_at (Mark mark.EqEq) = Some sign.Eq
operator_at (Mark mark.NotEq) = Some sign.Ne
operator_at (Mark mark.Less) = Some sign.Lt
operator_at (Mark mark.LessEq) = Some sign.Le
operator_at (Mark mark.Greater) = Some sign.Gt
operator_at (Mark mark.GreaterEq) = Some sign.Ge
operator_at (Mark mark.Amp) = Some sign.And
operator_at (Mark mark.Caret) = Some sign.Xor
operator_at (Mark mark.Bar) = Some sign.Or
operator_at kind = None

-- how strongly an operator binds its operands: as strongly as its token goes on
abbrev pub strength_of : BinOp → ℕ
strength_of sign.Mul = 7
strength_of sign.Add = 6
strength_of sign.Sub = 6
strength_of sign.And = 4
strength_of sign.Xor = 3
strength_of sign.Or = 2
strength_of sign.Shl = 8
strength_of sign.Shr = 8
strength_of sign.Cat = 8
strength_of comparison = 5

-- a comparison, of which an expression takes one alone
abbrev pub is_comparison : BinOp → Bool
is_comparison operator = strength_of operator == 5

-- the operator takes the operand before it, ahead of a token of the strength: operators of one level group to the left
abbrev pub takes_first : BinOp → ℕ → Bool
takes_first operator strong =
    nat_lt strong (strength_of operator) || (strong == strength_of operator && not (is_comparison operator))

-- an operand with the frames that wait for it
pub record Settled : Type 0 where
  pub stack : List Frame
  pub operand : Expr

-- the operand, taken by each frame that has it ahead of a token of the strength
abbrev pub settled : ℕ → List Frame → Expr → Settled
settled strong (states.inverting at ∷ stack) operand = settled strong stack (tree.inverse at operand)
settled strong (states.operating operator at left ∷ stack) operand =
    if takes_first operator strong
    then settled strong stack (tree.binary at operator left operand)
    else record { stack = states.operating operator at left ∷ stack; operand = operand }
settled strong (states.choosing_second at condition first ∷ stack) operand =
    if strong == 0
    then settled strong stack (tree.choice at condition first operand)
    else record { stack = states.choosing_second at condition first ∷ stack; operand = operand }
settled strong stack operand = record { stack = stack; operand = operand }

abbrev pub Threaded : Type 0
Threaded = Step ThreadReading Term

abbrev pub at_state : List Frame → ThreadState → ThreadReading
at_state stack state = record { stack = stack; state = state }

abbrev pub moves : List Frame → ThreadState → Threaded
moves stack state = quietly (at_state stack state)

-- with a node at the token
abbrev pub node : Token → List Frame → ThreadState → Threaded
node token stack state = begins counted.Expr token (at_state stack state)

-- an operand begins
abbrev pub function_step : List Frame → Token → Option BinOp → Threaded
function_step stack token (Some operator) = node token stack (states.call_opening operator token.at)
function_step stack token None = unexpected

abbrev pub operand_step : List Frame → Token → TokenKind → Threaded
operand_step stack token (Mark mark.Tilde) = node token (states.inverting token.at ∷ stack) states.operand_wanted
operand_step stack token (Mark mark.Star) = node token stack (states.shown_register token.at)
operand_step stack token (Literal width value) =
    node token stack (states.after_operand (tree.literal token.at width value))
operand_step stack token (Word name) = node token stack (states.after_word token.at name)
operand_step stack token (Mark mark.OpenParen) = moves stack (states.parenthesis_opened token.at)
operand_step stack token kind = function_step stack token (function_of kind)

-- Acts and terms.

-- a term is whole
abbrev pub term_ends : List Frame → Term → Threaded
term_ends [] term = finished term
term_ends (states.following bound act ∷ stack) term = term_ends stack (tree.follow bound act term)
term_ends (states.besides bound act ∷ stack) term = term_ends stack (tree.beside bound act term)
term_ends (states.first_side at condition ∷ stack) term = moves stack (states.after_first at condition term)
term_ends (states.second_side at condition first ∷ stack) term =
    moves stack (states.after_act (tree.either at condition first term))
term_ends (states.blocking at ∷ stack) term = moves stack (states.after_act (tree.block at term))
term_ends stack term = unexpected

-- an act is whole, and the token follows it: one whose value is bound is not the last of its term
abbrev pub act_step : List Frame → Act → TokenKind → Threaded
act_step (states.binding name ∷ stack) act (Mark mark.Chain) =
    moves (states.following (Some name) act ∷ stack) states.term_wanted
act_step (states.binding name ∷ stack) act (Mark mark.Semicolon) =
    moves (states.besides (Some name) act ∷ stack) states.term_wanted
act_step (states.binding name ∷ stack) act kind = unexpected
act_step stack act (Mark mark.Chain) = moves (states.following None act ∷ stack) states.term_wanted
act_step stack act (Mark mark.Semicolon) = moves (states.besides None act ∷ stack) states.term_wanted
act_step stack act (Mark mark.CloseBrace) = term_ends stack (tree.single act)
act_step stack act kind = unexpected

-- an expression is whole, and the token follows it
abbrev pub expression_step : List Frame → Expr → TokenKind → Threaded
expression_step (states.grouping ∷ stack) expr (Mark mark.CloseParen) = moves stack (states.after_operand expr)
expression_step (states.calling operator at ∷ stack) expr (Mark mark.Comma) =
    moves (states.calling_second operator at expr ∷ stack) states.operand_wanted
expression_step (states.calling_second operator at first ∷ stack) expr (Mark mark.CloseParen) =
    moves stack (states.after_operand (tree.binary at operator first expr))
expression_step (states.choosing at condition ∷ stack) expr (Mark mark.Colon) =
    moves (states.choosing_second at condition expr ∷ stack) states.operand_wanted
expression_step (states.setting at register ∷ stack) expr kind =
    act_step stack (tree.set at register.name register.at expr) kind
expression_step (states.sending at endpoint message ∷ stack) expr (Mark mark.CloseParen) =
    moves stack (states.after_act (tree.send at endpoint.name endpoint.at message.name message.at expr))
expression_step (states.deciding at ∷ stack) expr (Mark mark.OpenBrace) =
    moves (states.first_side at expr ∷ stack) states.term_wanted
expression_step (states.evaluating ∷ stack) expr kind = act_step stack (tree.pure (place_of_expr expr) expr) kind
expression_step stack expr kind = unexpected

-- the operand of a comparison can be compared no more
abbrev pub compares : List Frame → BinOp → Bool
compares (states.operating before at left ∷ stack) operator = is_comparison before && is_comparison operator
compares stack operator = false

-- an operand is whole, the frames that have it ahead of the token have taken it, and the token follows it
abbrev pub operator_step : List Frame → Expr → Token → Option BinOp → Threaded
operator_step stack operand token (Some operator) =
    if compares stack operator
    then unexpected
    else node token (states.operating operator token.at operand ∷ stack) states.operand_wanted
operator_step stack operand token None =
    if strength token.kind == 1
    then node token (states.choosing token.at operand ∷ stack) states.operand_wanted
    else expression_step stack operand token.kind

-- an operand is whole, and the token follows it
abbrev pub settled_step : Settled → Token → Threaded
settled_step now token = operator_step now.stack now.operand token (operator_at token.kind)

abbrev pub operand_ends : List Frame → Expr → Token → Threaded
operand_ends stack operand token = settled_step (settled (strength token.kind) stack operand) token

-- a slice goes on with a word, or the word is a variable
abbrev pub word_step : List Frame → ℕ → Name → Token → TokenKind → Threaded
word_step stack at name token (Mark mark.OpenBracket) = moves stack (states.slice_high at name)
word_step stack at name token kind = operand_ends stack (tree.variable at name) token

-- `(` was read: with `)` it is the unit, and else a group
abbrev pub parenthesis_step : List Frame → ℕ → Token → TokenKind → Threaded
parenthesis_step stack at token (Mark mark.CloseParen) =
    onward (record { kind = counted.Expr; at = at } ∷ []) (at_state stack (states.after_operand (tree.unit at)))
parenthesis_step stack at token kind = operand_step (states.grouping ∷ stack) token kind

-- an act begins, and perhaps a node with it
abbrev pub begins_act : Token → Threaded → Threaded
begins_act token unexpected = unexpected
begins_act token (onward begun next) = onward (record { kind = counted.Act; at = token.at } ∷ begun) next
begins_act token (finished term) = finished term

abbrev pub begin_step_by : List Frame → Token → TokenKind → Threaded
begin_step_by stack token (Key key.Cycle) = moves stack (states.cycle_count token.at)
begin_step_by stack token (Key key.Set) = moves stack (states.set_register token.at)
begin_step_by stack token (Key key.Send) = moves stack (states.send_endpoint token.at)
begin_step_by stack token (Key key.Recv) = moves stack (states.receive_endpoint token.at)
begin_step_by stack token (Key key.If) = moves (states.deciding token.at ∷ stack) states.operand_wanted
begin_step_by stack token (Mark mark.OpenBrace) = moves (states.blocking token.at ∷ stack) states.term_wanted
begin_step_by stack token kind = operand_step (states.evaluating ∷ stack) token kind

abbrev pub begin_step : List Frame → Token → TokenKind → Threaded
begin_step stack token kind = begins_act token (begin_step_by stack token kind)

abbrev pub term_step : List Frame → Token → TokenKind → Threaded
term_step stack token (Key key.Let) = moves stack states.let_name
term_step stack token kind = begin_step stack token kind

-- the first side of an `if` is whole
abbrev pub else_step : List Frame → ℕ → Expr → Term → TokenKind → Threaded
else_step stack at condition first (Key key.Else) = moves stack (states.else_opening at condition first)
else_step stack at condition first kind = act_step stack (tree.when at condition first) kind

-- the states inside acts and slices
abbrev pub inner_step : List Frame → ThreadState → Token → TokenKind → Threaded
inner_step stack states.let_name token (Word name) = moves stack (states.let_equals name)
inner_step stack (states.let_equals name) token (Mark mark.Equals) =
    moves (states.binding name ∷ stack) states.act_wanted
inner_step stack (states.cycle_count at) token (Number count) =
    moves stack (states.after_act (tree.cycle at count token.at))
inner_step stack (states.set_register at) token (Word name) = moves stack (states.set_assign at (labelled name token))
inner_step stack (states.set_assign at register) token (Mark mark.Assign) =
    moves (states.setting at register ∷ stack) states.operand_wanted
inner_step stack (states.send_endpoint at) token (Word name) = moves stack (states.send_dot at (labelled name token))
inner_step stack (states.send_dot at endpoint) token (Mark mark.Dot) = moves stack (states.send_message at endpoint)
inner_step stack (states.send_message at endpoint) token (Word name) =
    moves stack (states.send_opening at endpoint (labelled name token))
inner_step stack (states.send_opening at endpoint message) token (Mark mark.OpenParen) =
    moves (states.sending at endpoint message ∷ stack) states.operand_wanted
inner_step stack (states.receive_endpoint at) token (Word name) =
    moves stack (states.receive_dot at (labelled name token))
inner_step stack (states.receive_dot at endpoint) token (Mark mark.Dot) =
    moves stack (states.receive_message at endpoint)
inner_step stack (states.receive_message at endpoint) token (Word name) =
    moves stack (states.after_act (tree.receive at endpoint.name endpoint.at name token.at))
inner_step stack (states.else_opening at condition first) token (Mark mark.OpenBrace) =
    moves (states.second_side at condition first ∷ stack) states.term_wanted
inner_step stack (states.shown_register at) token (Word name) = moves stack (states.after_operand (tree.shown at name))
inner_step stack (states.call_opening operator at) token (Mark mark.OpenParen) =
    moves (states.calling operator at ∷ stack) states.operand_wanted
inner_step stack (states.slice_high at name) token (Number high) = moves stack (states.slice_colon at name high)
inner_step stack (states.slice_colon at name high) token (Mark mark.Colon) = moves stack (states.slice_low at name high)
inner_step stack (states.slice_low at name high) token (Number low) =
    moves stack (states.slice_closing at name high low)
inner_step stack (states.slice_closing at name high low) token (Mark mark.CloseBracket) =
    moves stack (states.after_operand (tree.slice at name high low))
inner_step stack state token kind = unexpected

abbrev pub thread_step_at : List Frame → ThreadState → Token → Threaded
thread_step_at stack states.term_wanted token = term_step stack token token.kind
thread_step_at stack states.act_wanted token = begin_step stack token token.kind
thread_step_at stack states.operand_wanted token = operand_step stack token token.kind
thread_step_at stack (states.parenthesis_opened at) token = parenthesis_step stack at token token.kind
thread_step_at stack (states.after_word at name) token = word_step stack at name token token.kind
thread_step_at stack (states.after_operand operand) token = operand_ends stack operand token
thread_step_at stack (states.after_act act) token = act_step stack act token.kind
thread_step_at stack (states.after_first at condition first) token = else_step stack at condition first token.kind
thread_step_at stack state token = inner_step stack state token token.kind

abbrev pub thread_step : ThreadReading → Token → Threaded
thread_step reading token = thread_step_at reading.stack reading.state token

-- Processes.

abbrev pub endpoint_of : Label → Side → Label → Endpoint
endpoint_of label side class =
    record { name = label.name; at = label.at; side = side; class = class.name; class_at = class.at }

abbrev pub endpoint_side_step : Label → Option Side → Step EndpointState Endpoint
endpoint_side_step label (Some side) = quietly (states.endpoint_class label side)
endpoint_side_step label None = unexpected

abbrev pub endpoint_step_by : EndpointState → Token → TokenKind → Step EndpointState Endpoint
endpoint_step_by (states.endpoint_colon label) token (Mark mark.Colon) = quietly (states.endpoint_side label)
endpoint_step_by (states.endpoint_side label) token kind = endpoint_side_step label (side_of kind)
endpoint_step_by (states.endpoint_class label side) token (Word name) =
    finished (endpoint_of label side (labelled name token))
endpoint_step_by state token kind = unexpected

abbrev pub endpoint_step : EndpointState → Token → Step EndpointState Endpoint
endpoint_step state token = endpoint_step_by state token token.kind

abbrev pub register_of : Label → Width → Option LiteralText → Register
register_of label width reset =
    record { name = label.name; at = label.at; width = width.width; width_at = width.width_at; reset = reset }

abbrev pub register_step_by : RegisterState → Token → TokenKind → Step RegisterState Register
register_step_by states.register_name token (Word name) = quietly (states.register_colon (labelled name token))
register_step_by (states.register_colon label) token (Mark mark.Colon) =
    quietly (states.register_width label states.logic_wanted)
register_step_by (states.register_width label state) token kind =
    within (states.register_width label) (λ width. quietly (states.register_reset label width))
    (width_step_by state token kind)
register_step_by (states.register_reset label width) token (Mark mark.Equals) =
    quietly (states.register_literal label width)
register_step_by (states.register_reset label width) token (Mark mark.Semicolon) =
    finished (register_of label width None)
register_step_by (states.register_literal label width) token (Literal bits value) =
    quietly
    (states.register_end (register_of label width (Some (record { width = bits; value = value; at = token.at }))))
register_step_by (states.register_end register) token (Mark mark.Semicolon) = finished register
register_step_by state token kind = unexpected

abbrev pub register_step : RegisterState → Token → Step RegisterState Register
register_step state token = register_step_by state token token.kind

abbrev pub process_of_draft : ProcessDraft → Process
process_of_draft draft =
    record {
      name = draft.label.name;
      at = draft.label.at;
      endpoints = draft.endpoints;
      registers = draft.registers;
      threads = draft.threads;
    }

abbrev pub empty_draft : Label → ProcessDraft
empty_draft label = record { label = label; endpoints = []; registers = []; threads = [] }

abbrev pub with_endpoint : ProcessDraft → Endpoint → ProcessDraft
with_endpoint draft endpoint = record draft { endpoints = draft.endpoints ++ (endpoint ∷ []) }

abbrev pub with_register : ProcessDraft → Register → ProcessDraft
with_register draft register = record draft { registers = draft.registers ++ (register ∷ []) }

abbrev pub with_thread : ProcessDraft → Term → ProcessDraft
with_thread draft thread = record draft { threads = draft.threads ++ (thread ∷ []) }

-- an endpoint begins with its name
abbrev pub begins_endpoint : ProcessDraft → Token → Name → Step ProcessState Process
begins_endpoint draft token name =
    begins counted.Endpoint token (states.in_endpoint draft (states.endpoint_colon (labelled name token)))

abbrev pub process_step_by : ProcessState → Token → TokenKind → Step ProcessState Process
process_step_by states.process_name token (Word name) = quietly (states.process_opening (labelled name token))
process_step_by (states.process_opening label) token (Mark mark.OpenParen) =
    quietly (states.first_endpoint (empty_draft label))
process_step_by (states.first_endpoint draft) token (Word name) = begins_endpoint draft token name
process_step_by (states.first_endpoint draft) token (Mark mark.CloseParen) = quietly (states.body_opening draft)
process_step_by (states.next_endpoint draft) token (Word name) = begins_endpoint draft token name
process_step_by (states.in_endpoint draft state) token kind =
    within (states.in_endpoint draft) (λ endpoint. quietly (states.after_endpoint (with_endpoint draft endpoint)))
    (endpoint_step state token)
process_step_by (states.after_endpoint draft) token (Mark mark.Comma) = quietly (states.next_endpoint draft)
process_step_by (states.after_endpoint draft) token (Mark mark.CloseParen) = quietly (states.body_opening draft)
process_step_by (states.body_opening draft) token (Mark mark.OpenBrace) = quietly (states.registers_wanted draft)
process_step_by (states.registers_wanted draft) token (Key key.Reg) =
    begins counted.Register token (states.in_register draft states.register_name)
process_step_by (states.registers_wanted draft) token (Key key.Loop) =
    begins counted.Thread token (states.thread_opening draft)
process_step_by (states.registers_wanted draft) token (Mark mark.CloseBrace) = finished (process_of_draft draft)
process_step_by (states.in_register draft state) token kind =
    within (states.in_register draft) (λ register. quietly (states.registers_wanted (with_register draft register)))
    (register_step state token)
process_step_by (states.threads_wanted draft) token (Key key.Loop) =
    begins counted.Thread token (states.thread_opening draft)
process_step_by (states.threads_wanted draft) token (Mark mark.CloseBrace) = finished (process_of_draft draft)
process_step_by (states.thread_opening draft) token (Mark mark.OpenBrace) =
    quietly (states.in_thread draft (at_state [] states.term_wanted))
process_step_by (states.in_thread draft reading) token kind =
    within (states.in_thread draft) (λ term. quietly (states.threads_wanted (with_thread draft term)))
    (thread_step reading token)
process_step_by state token kind = unexpected

abbrev pub process_step : ProcessState → Token → Step ProcessState Process
process_step state token = process_step_by state token token.kind

-- Files.

abbrev pub item_step : File → Token → TokenKind → Step State File
item_step items token (Key key.Chan) = begins counted.Class token (states.in_class items states.class_name)
item_step items token (Key key.Proc) = begins counted.Process token (states.in_process items states.process_name)
item_step items token End = quietly (states.ended items)
item_step items token kind = unexpected

abbrev pub step : State → Token → Step State File
step (states.between items) token = item_step items token token.kind
step (states.in_class items state) token =
    within (states.in_class items) (λ class. quietly (states.between (items ++ (tree.class class ∷ []))))
    (class_step state token)
step (states.in_process items state) token =
    within (states.in_process items) (λ process. quietly (states.between (items ++ (tree.process process ∷ []))))
    (process_step state token)
step (states.ended items) token = unexpected

-- what reading tokens from a state comes to: the things that begin, and where the reading stands or what is unexpected
pub data Stop : Type 0 where
  stands : State → Stop
  unexpected_at : ℕ → Stop

pub record Walk : Type 0 where
  pub begun : List Begin
  pub stop : Stop

abbrev pub behind : List Begin → Walk → Walk
behind begun walk = record { begun = begun ++ walk.begun; stop = walk.stop }

abbrev pub walk_on : (State → Walk) → Token → Step State File → Walk
walk_on next token unexpected = record { begun = []; stop = unexpected_at token.at }
walk_on next token (onward begun state) = behind begun (next state)
walk_on next token (finished items) = record { begun = []; stop = unexpected_at token.at }

abbrev pub walk : State → List Token → Walk
walk state [] = record { begun = []; stop = stands state }
walk state (token ∷ rest) = walk_on (λ next. walk next rest) token (step state token)
