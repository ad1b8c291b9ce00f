-- An expression that an act waits for: where a token leads in it, it leads in the thread.
use Rattle.std.proofs.Common.{◌≡◌, ◌⊎◌, inl, inr, List, [], ◌∷◌, Result, Ok, Err, refl}
use Rattle.std.specs.Prelude.{MatchResult}
use Rattle.anvil_lexer.specs.declared.token.Token.{Token}
use Rattle.anvil_tree.specs.Tree.{Expr}
use Rattle.anvil_grammar.specs.declared.error.ParseErr.{ParseErr}
use Rattle.anvil_grammar.specs.declared.error.ParseErr.TheVariants.{Unexpected, NoMemory}
use Rattle.anvil_grammar.specs.Begun as things
use Rattle.anvil_grammar.specs.State.{Frame, ThreadReading}
use Rattle.anvil_grammar.specs.Step.{Threaded, unexpected, onward, finished, expression_step, thread_step}
use Rattle.parse_expressions.specs.Read.{expression_read}
use Rattle.parse_expressions.specs.Seen.{expression_of, stack_of}
use Rattle.parse_expressions.specs.declared.expression.Expression.{Expression}
use Rattle.parse_threads.specs.declared.thread.ValueFrame.{ValueFrame}
use Rattle.parse_threads.specs.declared.thread.ThreadState.TheVariants as in_thread
use Rattle.parse_threads.specs.declared.thread.Next.{Next}
use Rattle.parse_threads.specs.SeenThread.{IsNext, reading_onto, seen_at, value_frame_of}
use Rattle.parse_threads.proofs.Within.{step_within, value_waits, within}

value_read : (stack : List Frame) (act : ValueFrame) (expression : Expression) (token : Token)
    → thread_step (seen_at stack (in_thread.Value act expression)) token ≡ within (value_frame_of act ∷ stack) token (expression_read (expression_of expression) token)
value_read stack act expression token = step_within (stack_of expression.frames) (value_frame_of act) stack expression.state token (value_waits act)

pub value_onward : (stack : List Frame) (act : ValueFrame) (expression : Expression) (token : Token) (begun : List things.Begin) (next : ThreadReading)
    → expression_read (expression_of expression) token ≡ onward begun next
    → thread_step (seen_at stack (in_thread.Value act expression)) token ≡ onward begun (reading_onto (value_frame_of act ∷ stack) next)
value_onward stack act expression token begun next is = let whole = value_read stack act expression token in rw whole (rw is refl)

value_unexpected : (stack : List Frame) (act : ValueFrame) (expression : Expression) (token : Token)
    → expression_read (expression_of expression) token ≡ unexpected
    → thread_step (seen_at stack (in_thread.Value act expression)) token ≡ unexpected
value_unexpected stack act expression token is = let whole = value_read stack act expression token in rw whole (rw is refl)

pub value_whole : (stack : List Frame) (act : ValueFrame) (expression : Expression) (token : Token) (expr : Expr)
    → expression_read (expression_of expression) token ≡ finished (record { stack = []; operand = expr })
    → thread_step (seen_at stack (in_thread.Value act expression)) token ≡ expression_step (value_frame_of act ∷ stack) expr token.kind
value_whole stack act expression token expr is = let whole = value_read stack act expression token in rw whole (rw is refl)

refused_next : (stack : List Frame) (token : Token) (wanted : Threaded) (refusal : ParseErr) (result : Result Next ParseErr)
    → MatchResult result (λ _. ⊥) (λ found. found ≡ refusal)
    → (refusal ≡ NoMemory) ⊎ ((wanted ≡ unexpected) × (refusal ≡ Unexpected token.at))
    → IsNext stack token wanted result
refused_next stack token wanted refusal (Ok next) is of = absurd is
refused_next stack token wanted refusal (Err found) is of = rw is of

-- a refusal that is handed on
pub value_refused : (stack : List Frame) (act : ValueFrame) (expression : Expression) (token : Token) (refusal : ParseErr) (result : Result Next ParseErr)
    → MatchResult result (λ _. ⊥) (λ found. found ≡ refusal)
    → (refusal ≡ NoMemory) ⊎ ((expression_read (expression_of expression) token ≡ unexpected) × (refusal ≡ Unexpected token.at))
    → IsNext stack token (thread_step (seen_at stack (in_thread.Value act expression)) token) result
value_refused stack act expression token refusal result is (inl full) =
    refused_next stack token (thread_step (seen_at stack (in_thread.Value act expression)) token) refusal result is (inl full)
value_refused stack act expression token refusal result is (inr (missed, at)) =
    refused_next stack token (thread_step (seen_at stack (in_thread.Value act expression)) token) refusal result is (inr (value_unexpected stack act expression token missed, at))
