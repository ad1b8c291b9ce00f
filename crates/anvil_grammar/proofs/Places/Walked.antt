-- At which places things begin in the reading of a list of tokens: at those of the tokens, or at that of a `(` just before them, if the
-- first of them is `)`. So a property of all these places holds of all that begins. Where places rise, a `(` that is pending after some
-- tokens is not behind the next token. By induction on the tokens, with what one token begins.
use Rattle.std.proofs.Common.{◌≡◌, ◌≤◌, ℕ, List, [], ◌∷◌, ◌++◌, refl, subst, ap, arith}
use Rattle.std.specs.Prelude.{⊤}
use Rattle.std.specs.List.{AllByRecursion}
use Rattle.anvil_lexer.specs.declared.token.Token.{Token}
use Rattle.anvil_lexer.specs.declared.token.TokenKind.TheVariants.{Mark}
use Rattle.anvil_lexer.specs.declared.token.Mark.TheVariants as mark
use Rattle.anvil_lexer.specs.TokenText.{ArePlacesRising}
use Rattle.anvil_tree.specs.Tree.{File}
use Rattle.anvil_grammar.specs.Begun.{Begin}
use Rattle.anvil_grammar.specs.State as states
use Rattle.anvil_grammar.specs.State.{Frame, ThreadState, ProcessDraft, ProcessState, State}
use Rattle.anvil_grammar.specs.Step.{Step, unexpected, onward, finished, step, walk, walk_on, Walk, stands}
use Rattle.anvil_grammar.proofs.Walk.Joined.{first_stands}
use Rattle.anvil_grammar.proofs.Places.Begun.{AllAt, Pending, PendingIn, Pends, stepped_placed}

pub both_at : (P : ℕ → Type 0) (begun others : List Begin) → AllAt P begun → AllAt P others → AllAt P (begun ++ others)
both_at P [] others first second = second
both_at P (begin ∷ begun) others first second = (first.0, both_at P begun others first.1 second)

pub at_middle : (P : ℕ → Type 0) (before after : List Begin) (begin : Begin) → AllAt P (before ++ (begin ∷ after)) → P begin.at
at_middle P [] after begin all = all.0
at_middle P (first ∷ before) after begin all = at_middle P before after begin all.1

pub pends_more : (P Q : ℕ → Type 0) → ((at : ℕ) → P at → Q at) → (state : State) → Pends P state → Pends Q state
pends_more P Q more (states.in_process items state) pends = in_process state pends
  where
    in_thread : (state : ThreadState) → Pending P state → Pending Q state
    in_thread (states.parenthesis_opened at) pends = more at pends
    in_thread state pends = tt

    in_process : (state : ProcessState) → PendingIn P state → PendingIn Q state
    in_process (states.in_thread draft reading) pends = in_thread reading.state pends
    in_process state pends = tt
pends_more P Q more state pends = tt

-- the tokens have places with the property, and the pending `(` has it, if the first of them is `)`
abbrev pub Closes : (ℕ → Type 0) → State → List Token → Type 0
Closes P state [] = ⊤
Closes P state (token ∷ rest) = token.kind ≡ Mark mark.CloseParen → Pends P state

abbrev pub TokensAt : (ℕ → Type 0) → List Token → Type 0
TokensAt P tokens = AllByRecursion (λ (token : Token). P token.at) tokens

pub pends_closes : (P : ℕ → Type 0) (state : State) (tokens : List Token) → Pends P state → Closes P state tokens
pends_closes P state [] pends = tt
pends_closes P state (token ∷ rest) pends = λ is. pends

abbrev Placing : (ℕ → Type 0) → List Token → Type 0
Placing P tokens = (state : State) → TokensAt P tokens → Closes P state tokens → AllAt P (walk state tokens).begun

placed_by : (P : ℕ → Type 0) (token : Token) (rest : List Token) → Placing P rest → (state : State) (came : Step State File) → step state token ≡ came
    → P token.at → TokensAt P rest → (token.kind ≡ Mark mark.CloseParen → Pends P state) → AllAt P (walk_on (λ next. walk next rest) token came).begun
placed_by P token rest placing state unexpected is here all closes = tt
placed_by P token rest placing state (finished items) is here all closes = tt
placed_by P token rest placing state (onward begun next) is here all closes =
    let one = stepped_placed P token state next begun here closes is in
    both_at P begun (walk next rest).begun one.0 (placing next all (pends_closes P next rest one.1))

pub walk_placed : (P : ℕ → Type 0) (tokens : List Token) → Placing P tokens
walk_placed P [] state all closes = tt
walk_placed P (token ∷ rest) state all closes = placed_by P token rest (walk_placed P rest) state (step state token) refl all.0 all.1 closes

-- a pending `(` is not behind the next token
abbrev pub PendsBefore : State → List Token → Type 0
PendsBefore state [] = ⊤
PendsBefore state (token ∷ rest) = Pends (λ at. at ≤ token.at) state

pends_next : (tokens : List Token) (token : Token) (next : State) → ArePlacesRising (token ∷ tokens) → Pends (λ at. at ≤ token.at) next → PendsBefore next tokens
pends_next [] token next rising pends = tt
pends_next (later ∷ tokens) token next rising pends =
    let less = rising.0 in
    pends_more (λ at. at ≤ token.at) (λ at. at ≤ later.at) (λ at before. omega arith) next pends

pub rising_on : (tokens : List Token) (token : Token) → ArePlacesRising (token ∷ tokens) → ArePlacesRising tokens
rising_on [] token rising = tt
rising_on (later ∷ tokens) token rising = rising.1

pub pends_walked : (front rest : List Token) (from state : State) (begun : List Begin) → ArePlacesRising (front ++ rest) → PendsBefore from (front ++ rest)
    → walk from front ≡ record { begun = begun; stop = stands state } → PendsBefore state rest
pends_walked [] rest from state begun rising pends walked =
    let same : stands from ≡ stands state = ap (λ (w : Walk). w.stop) walked in
    let places : from ≡ state = cc in
    subst (λ p. PendsBefore p rest) places pends
pends_walked (token ∷ front) rest from state begun rising pends walked =
    let first = first_stands from token front begun state walked in
    let one = stepped_placed (λ at. at ≤ token.at) token from first.next first.first (omega arith) (λ closing. pends) first.stepped in
    pends_walked front rest first.next state first.others (rising_on (front ++ rest) token rising) (pends_next (front ++ rest) token first.next rising one.1) first.walked

-- a `(` is pending, or none is
pub data Opened : State → Type 0 where
  opened : (items : File) (draft : ProcessDraft) (stack : List Frame) (at : ℕ)
      → Opened (states.in_process items (states.in_thread draft (record { stack = stack; state = states.parenthesis_opened at })))
  free : {state : State} → Pends (λ at. ⊥) state → Opened state

thread_opened : (items : File) (draft : ProcessDraft) (stack : List Frame) (state : ThreadState)
    → Opened (states.in_process items (states.in_thread draft (record { stack = stack; state = state })))
thread_opened items draft stack (states.parenthesis_opened at) = opened items draft stack at
thread_opened items draft stack state = free tt

process_opened : (items : File) (state : ProcessState) → Opened (states.in_process items state)
process_opened items (states.in_thread draft reading) = thread_opened items draft reading.stack reading.state
process_opened items state = free tt

pub is_opened : (state : State) → Opened state
is_opened (states.in_process items state) = process_opened items state
is_opened state = free tt
