-- How the types for expressions are seen as frames and states, and what an answer says of the step that a token comes
-- to.
use Rattle.std.specs.Prelude.{ℕ, ◌==◌, ◌≡◌, ◌⊎◌, Bool, true, false, List, [], ◌∷◌, MatchResult, Option, Some, None, Result}
use Rattle.anvil_lexer.specs.declared.token.Token.{Token}
use Rattle.anvil_tree.specs.Tree as tree
use Rattle.anvil_tree.specs.View.{expr_of}
use Rattle.anvil_grammar.specs.declared.error.ParseErr.{ParseErr}
use Rattle.anvil_grammar.specs.declared.error.ParseErr.TheVariants.{Unexpected, NoMemory}
use Rattle.anvil_grammar.specs.declared.error.Counted.TheVariants as counted
use Rattle.parse_expressions.specs.declared.frames.Frame.{Frame}
use Rattle.parse_expressions.specs.declared.frames.Frame.TheVariants as frame
use Rattle.parse_expressions.specs.declared.frames.Frames.{Frames}
use Rattle.parse_expressions.specs.declared.expression.SliceState.{SliceState}
use Rattle.parse_expressions.specs.declared.expression.SliceState.TheVariants as in_slice
use Rattle.parse_expressions.specs.declared.expression.State.{State}
use Rattle.parse_expressions.specs.declared.expression.State.TheVariants as in_expr
use Rattle.parse_expressions.specs.declared.expression.Expression.{Expression}
use Rattle.parse_expressions.specs.declared.expression.Read.TheVariants as answer
use Rattle.parse_expressions.specs.declared.expression.Read as declared
use Rattle.parse_expressions.specs.declared.read.Next.{Next}
use Rattle.parse_expressions.specs.declared.read.Next.TheVariants as next
use Rattle.anvil_grammar.specs.Begun as things
use Rattle.anvil_grammar.specs.State as states
use Rattle.anvil_grammar.specs.Step.{takes_first, unexpected, onward, finished, at_state}
use Rattle.parse_expressions.specs.Read.{Read}

abbrev pub frame_of : Frame → states.Frame
frame_of (frame.Inverting at) = states.inverting at
frame_of (frame.Operating operator at left) = states.operating operator at (expr_of left)
frame_of frame.Grouping = states.grouping
frame_of (frame.Calling operator at) = states.calling operator at
frame_of (frame.CallingSecond operator at first) = states.calling_second operator at (expr_of first)
frame_of (frame.Choosing at condition) = states.choosing at (expr_of condition)
frame_of (frame.ChoosingSecond at condition first) = states.choosing_second at (expr_of condition) (expr_of first)

-- the last frame of a vector is on top
abbrev pub frames_onto : List Frame → List states.Frame → List states.Frame
frames_onto [] stack = stack
frames_onto (frame ∷ frames) stack = frames_onto frames (frame_of frame ∷ stack)

abbrev pub stack_of : Frames → List states.Frame
stack_of frames = frames_onto frames.frames.items []

-- the frame on top takes the operand ahead of a token of the strength
abbrev pub takes_operand : ℕ → List states.Frame → Bool
takes_operand strong (states.inverting at ∷ stack) = true
takes_operand strong (states.operating operator at left ∷ stack) = takes_first operator strong
takes_operand strong (states.choosing_second at condition first ∷ stack) = strong == 0
takes_operand strong stack = false

-- the operand, as the frame takes it
abbrev pub taken_by : states.Frame → tree.Expr → tree.Expr
taken_by (states.inverting at) operand = tree.inverse at operand
taken_by (states.operating operator at left) operand = tree.binary at operator left operand
taken_by (states.choosing_second at condition first) operand = tree.choice at condition first operand
taken_by frame operand = operand

abbrev pub slice_of : ℕ → tree.Name → SliceState → states.ThreadState
slice_of at name in_slice.High = states.slice_high at name
slice_of at name (in_slice.Colon high) = states.slice_colon at name high
slice_of at name (in_slice.Low high) = states.slice_low at name high
slice_of at name (in_slice.Closing high low) = states.slice_closing at name high low

abbrev pub state_of : State → states.ThreadState
state_of in_expr.Operand = states.operand_wanted
state_of (in_expr.ShownRegister at) = states.shown_register at
state_of (in_expr.ParenthesisOpened at) = states.parenthesis_opened at
state_of (in_expr.CallOpening operator at) = states.call_opening operator at
state_of (in_expr.AfterWord at name) = states.after_word at name
state_of (in_expr.InSlice at name wanted) = slice_of at name wanted
state_of (in_expr.AfterOperand operand) = states.after_operand (expr_of operand)

abbrev pub expression_of : Expression → states.ThreadReading
expression_of expression = record { stack = stack_of expression.frames; state = state_of expression.state }

-- the node that begins at a place, where one does
abbrev pub nodes_of : Option ℕ → List things.Begin
nodes_of None = []
nodes_of (Some at) = record { kind = counted.Expr; at = at } ∷ []

-- where a token leads, with the frames then
abbrev pub next_of : List states.Frame → Next → Read
next_of stack (next.Onward begun state) = onward (nodes_of begun) (at_state stack (state_of state))
next_of stack (next.Whole expr) = finished (record { stack = []; operand = expr_of expr })

-- the answer is where the token leads, or that it is unexpected; want of memory is free
abbrev pub IsNext : List states.Frame → Token → Read → Result Next ParseErr → Type 0
IsNext stack token wanted result =
    MatchResult result (λ found. wanted ≡ next_of stack found)
    (λ refusal. (refusal ≡ NoMemory) ⊎ ((wanted ≡ unexpected) × (refusal ≡ Unexpected token.at)))

abbrev pub read_of : states.ThreadReading → declared.Read → Read
read_of reading (answer.Onward begun) = onward (nodes_of begun) reading
read_of reading (answer.Whole expr) = finished (record { stack = []; operand = expr_of expr })

-- the same of the answer that goes to the crate above, with the reading then
abbrev pub IsRead : states.ThreadReading → Token → Read → Result declared.Read ParseErr → Type 0
IsRead reading token wanted result =
    MatchResult result (λ found. wanted ≡ read_of reading found)
    (λ refusal. (refusal ≡ NoMemory) ⊎ ((wanted ≡ unexpected) × (refusal ≡ Unexpected token.at)))
