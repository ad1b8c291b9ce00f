-- Where a token leads that is the mark that is wanted.
use Rattle.std.proofs.Common.{◌≡◌, ◌∙◌, List, Result, Ok, Err, inl, refl, subst, sym}
use Rattle.std.specs.Prelude.{MatchResult}
use Rattle.anvil_lexer.specs.declared.token.Token.{Token}
use Rattle.anvil_lexer.specs.declared.token.TokenKind.{TokenKind}
use Rattle.anvil_lexer.specs.declared.token.TokenKind.TheVariants.{Mark}
use Rattle.anvil_grammar.specs.declared.error.ParseErr.{ParseErr}
use Rattle.anvil_grammar.specs.declared.error.ParseErr.TheVariants.{NoMemory}
use Rattle.anvil_grammar.specs.State.{Frame}
use Rattle.anvil_grammar.specs.Step.{Threaded, inner_step, thread_step_at}
use Rattle.parse_threads.specs.declared.thread.MarkWanted.{MarkWanted}
use Rattle.parse_threads.specs.declared.thread.MarkWanted.TheVariants as sign
use Rattle.parse_threads.specs.declared.thread.Next.{Next}
use Rattle.parse_threads.specs.SeenThread.{IsNext, mark_of, mark_state_of, marked, next_of}

mark_inside : (stack : List Frame) (wants : MarkWanted) (token : Token) → thread_step_at stack (mark_state_of wants) token ≡ inner_step stack (mark_state_of wants) token token.kind
mark_inside stack (sign.Equals name) token = refl
mark_inside stack (sign.Assign at register) token = refl
mark_inside stack (sign.SendDot at endpoint) token = refl
mark_inside stack (sign.SendOpening at endpoint message) token = refl
mark_inside stack (sign.ReceiveDot at endpoint) token = refl
mark_inside stack (sign.ElseOpening at condition first) token = refl

by_mark : (stack : List Frame) (wants : MarkWanted) (token : Token) → inner_step stack (mark_state_of wants) token (Mark (mark_of wants)) ≡ marked stack wants
by_mark stack (sign.Equals name) token = refl
by_mark stack (sign.Assign at register) token = refl
by_mark stack (sign.SendDot at endpoint) token = refl
by_mark stack (sign.SendOpening at endpoint message) token = refl
by_mark stack (sign.ReceiveDot at endpoint) token = refl
by_mark stack (sign.ElseOpening at condition first) token = refl

by_kind : (stack : List Frame) (wants : MarkWanted) (token : Token) (kind : TokenKind) → kind ≡ Mark (mark_of wants)
    → inner_step stack (mark_state_of wants) token kind ≡ marked stack wants
by_kind stack wants token kind is = rw is (by_mark stack wants token)

mark_taken : (stack : List Frame) (wants : MarkWanted) (token : Token) → token.kind ≡ Mark (mark_of wants)
    → thread_step_at stack (mark_state_of wants) token ≡ marked stack wants
mark_taken stack wants token is = mark_inside stack wants token ∙ by_kind stack wants token token.kind is

next_is : (stack : List Frame) (token : Token) (step : Threaded) (result : Result Next ParseErr)
    → MatchResult result (λ next. next_of stack next ≡ step) (λ refusal. refusal ≡ NoMemory) → IsNext stack token step result
next_is stack token step (Ok next) is = sym is
next_is stack token step (Err refusal) is = inl is

pub mark_leads : (stack later : List Frame) (wants : MarkWanted) (token : Token) (result : Result Next ParseErr) → token.kind ≡ Mark (mark_of wants)
    → MatchResult result (λ next. next_of later next ≡ marked stack wants) (λ refusal. refusal ≡ NoMemory)
    → IsNext later token (thread_step_at stack (mark_state_of wants) token) result
mark_leads stack later wants token result is leads =
    subst (λ step. IsNext later token step result) (sym (mark_taken stack wants token is)) (next_is later token (marked stack wants) result leads)
