-- How the types for threads are seen as frames and states, and what an answer says of the step that a token comes to.
use Rattle.std.specs.Prelude.{◌≡◌, ◌⊎◌, Bool, true, false, List, [], ◌∷◌, ◌++◌, MatchResult, Option, Some, None, Result}
use Rattle.anvil_lexer.specs.declared.token.Token.{Token}
use Rattle.anvil_lexer.specs.declared.token.TokenKind.{TokenKind}
use Rattle.anvil_lexer.specs.declared.token.TokenKind.TheVariants.{Key, Mark}
use Rattle.anvil_lexer.specs.declared.token.Keyword.TheVariants as key
use Rattle.anvil_lexer.specs.declared.token.Mark as declared
use Rattle.anvil_lexer.specs.declared.token.Mark.TheVariants as mark
use Rattle.anvil_tree.specs.Tree as tree
use Rattle.anvil_tree.specs.View.{expr_of, act_of, term_of}
use Rattle.anvil_grammar.specs.declared.error.ParseErr.{ParseErr}
use Rattle.anvil_grammar.specs.declared.error.ParseErr.TheVariants.{Unexpected, NoMemory}
use Rattle.anvil_grammar.specs.Begun as things
use Rattle.anvil_grammar.specs.State as states
use Rattle.anvil_grammar.specs.Step.{Threaded, unexpected, onward, finished, moves, at_state, term_ends}
use Rattle.parse_expressions.specs.Seen.{expression_of}
use Rattle.parse_threads.specs.declared.thread.TermState.{TermState}
use Rattle.parse_threads.specs.declared.thread.TermState.TheVariants as in_term
use Rattle.parse_threads.specs.declared.thread.NameWanted.{NameWanted}
use Rattle.parse_threads.specs.declared.thread.NameWanted.TheVariants as name
use Rattle.parse_threads.specs.declared.thread.MarkWanted.{MarkWanted}
use Rattle.parse_threads.specs.declared.thread.MarkWanted.TheVariants as sign
use Rattle.parse_threads.specs.declared.thread.ValueFrame.{ValueFrame}
use Rattle.parse_threads.specs.declared.thread.ValueFrame.TheVariants as value
use Rattle.parse_threads.specs.declared.thread.ThreadState.{ThreadState}
use Rattle.parse_threads.specs.declared.thread.ThreadState.TheVariants as in_thread
use Rattle.parse_threads.specs.declared.thread.Thread.{Thread}
use Rattle.parse_threads.specs.declared.thread.Next.{Next}
use Rattle.parse_threads.specs.declared.thread.Next.TheVariants as next
use Rattle.parse_steps.specs.Seen.{begun_of, label_of}
use Rattle.thread_frames.specs.SeenFrames.{stack_of}

abbrev pub value_frame_of : ValueFrame → states.Frame
value_frame_of (value.Setting at register) = states.setting at (label_of register)
value_frame_of (value.Sending at endpoint message) = states.sending at (label_of endpoint) (label_of message)
value_frame_of (value.Deciding at) = states.deciding at
value_frame_of value.Evaluating = states.evaluating

abbrev pub term_state_of : TermState → states.ThreadState
term_state_of in_term.Wanted = states.term_wanted
term_state_of in_term.ActWanted = states.act_wanted
term_state_of (in_term.AfterAct act) = states.after_act (act_of act)
term_state_of (in_term.AfterFirst at condition first) = states.after_first at (expr_of condition) (term_of first)

abbrev pub name_state_of : NameWanted → states.ThreadState
name_state_of name.Variable = states.let_name
name_state_of (name.Register at) = states.set_register at
name_state_of (name.SendEndpoint at) = states.send_endpoint at
name_state_of (name.SendMessage at endpoint) = states.send_message at (label_of endpoint)
name_state_of (name.ReceiveEndpoint at) = states.receive_endpoint at
name_state_of (name.ReceiveMessage at endpoint) = states.receive_message at (label_of endpoint)

abbrev pub mark_state_of : MarkWanted → states.ThreadState
mark_state_of (sign.Equals name) = states.let_equals name
mark_state_of (sign.Assign at register) = states.set_assign at (label_of register)
mark_state_of (sign.SendDot at endpoint) = states.send_dot at (label_of endpoint)
mark_state_of (sign.SendOpening at endpoint message) = states.send_opening at (label_of endpoint) (label_of message)
mark_state_of (sign.ReceiveDot at endpoint) = states.receive_dot at (label_of endpoint)
mark_state_of (sign.ElseOpening at condition first) = states.else_opening at (expr_of condition) (term_of first)

-- the reading of an expression lies above that of the thread
abbrev pub reading_onto : List states.Frame → states.ThreadReading → states.ThreadReading
reading_onto stack reading = at_state (reading.stack ++ stack) reading.state

abbrev pub seen_at : List states.Frame → ThreadState → states.ThreadReading
seen_at stack (in_thread.Term state) = at_state stack (term_state_of state)
seen_at stack (in_thread.CycleCount at) = at_state stack (states.cycle_count at)
seen_at stack (in_thread.Name wanted) = at_state stack (name_state_of wanted)
seen_at stack (in_thread.Mark wanted) = at_state stack (mark_state_of wanted)
seen_at stack (in_thread.Value act expression) =
    reading_onto (value_frame_of act ∷ stack) (expression_of expression)

abbrev pub thread_of : Thread → states.ThreadReading
thread_of thread = seen_at (stack_of thread.stack) thread.state

-- where a token leads, with the frames then
abbrev pub next_of : List states.Frame → Next → Threaded
next_of stack (next.Onward begun state) = onward (begun_of begun) (seen_at stack state)
next_of stack (next.Whole term) = finished (term_of term)

-- the answer is where the token leads, or that it is unexpected; want of memory is free
abbrev pub IsNext : List states.Frame → Token → Threaded → Result Next ParseErr → Type 0
IsNext stack token wanted result =
    MatchResult result (λ found. wanted ≡ next_of stack found)
    (λ refusal. (refusal ≡ NoMemory) ⊎ ((wanted ≡ unexpected) × (refusal ≡ Unexpected token.at)))

-- where a name leads that is wanted
abbrev pub named : List states.Frame → NameWanted → states.Label → Threaded
named stack name.Variable label = moves stack (states.let_equals label.name)
named stack (name.Register at) label = moves stack (states.set_assign at label)
named stack (name.SendEndpoint at) label = moves stack (states.send_dot at label)
named stack (name.SendMessage at endpoint) label = moves stack (states.send_opening at (label_of endpoint) label)
named stack (name.ReceiveEndpoint at) label = moves stack (states.receive_dot at label)
named stack (name.ReceiveMessage at endpoint) label =
    moves stack (states.after_act (tree.receive at endpoint.name endpoint.at label.name label.at))

-- the mark that is wanted, and where it leads
abbrev pub mark_of : MarkWanted → declared.Mark
mark_of (sign.Equals name) = mark.Equals
mark_of (sign.Assign at register) = mark.Assign
mark_of (sign.SendDot at endpoint) = mark.Dot
mark_of (sign.SendOpening at endpoint message) = mark.OpenParen
mark_of (sign.ReceiveDot at endpoint) = mark.Dot
mark_of (sign.ElseOpening at condition first) = mark.OpenBrace

abbrev pub marked : List states.Frame → MarkWanted → Threaded
marked stack (sign.Equals name) = moves (states.binding name ∷ stack) states.act_wanted
marked stack (sign.Assign at register) = moves (states.setting at (label_of register) ∷ stack) states.operand_wanted
marked stack (sign.SendDot at endpoint) = moves stack (states.send_message at (label_of endpoint))
marked stack (sign.SendOpening at endpoint message) =
    moves (states.sending at (label_of endpoint) (label_of message) ∷ stack) states.operand_wanted
marked stack (sign.ReceiveDot at endpoint) = moves stack (states.receive_message at (label_of endpoint))
marked stack (sign.ElseOpening at condition first) =
    moves (states.second_side at (expr_of condition) (term_of first) ∷ stack) states.term_wanted

-- an act is whole, with the variable that waits for it where one does, and the token follows it
abbrev pub joined_step : Option tree.Name → List states.Frame → tree.Act → TokenKind → Threaded
joined_step bound stack act (Mark mark.Chain) = moves (states.following bound act ∷ stack) states.term_wanted
joined_step bound stack act (Mark mark.Semicolon) = moves (states.besides bound act ∷ stack) states.term_wanted
joined_step None stack act (Mark mark.CloseBrace) = term_ends stack (tree.single act)
joined_step bound stack act kind = unexpected

-- what begins with an act, where the step of its first token is known
abbrev pub acted : things.Begin → Threaded → Threaded
acted act (onward begun next) = onward (act ∷ begun) next
acted act step = step

-- the token is the keyword of an act
abbrev pub begins_by_key : TokenKind → Bool
begins_by_key (Key key.Cycle) = true
begins_by_key (Key key.Set) = true
begins_by_key (Key key.Send) = true
begins_by_key (Key key.Recv) = true
begins_by_key (Key key.If) = true
begins_by_key kind = false
