-- The reading of two lists of tokens, one after the other. Where the reading of the first comes to a state, the reading of both is
-- that of the second from there, behind the things of the first; where it meets an unexpected token, so does the reading of both. So if
-- the reading of both comes to a state, the reading of the first does, and its first token can stand. By induction on the first list.
use Rattle.std.proofs.Common.{◌≡◌, List, [], ◌∷◌, ◌++◌, ◌∙◌, refl, sym, ap, append_assoc}
use Rattle.anvil_lexer.specs.declared.token.Token.{Token}
use Rattle.anvil_tree.specs.Tree.{File}
use Rattle.anvil_grammar.specs.Begun.{Begin}
use Rattle.anvil_grammar.specs.State.{State}
use Rattle.anvil_grammar.specs.Step.{step, walk, walk_on, Walk, Stop, stands, unexpected_at, behind, Step, unexpected, onward, finished}

pub stop_of : {one other : Walk} → one ≡ other → one.stop ≡ other.stop
stop_of same = ap (λ (found : Walk). found.stop) same

-- the reading of more tokens, where the first come to the walk
abbrev pub then_walk : Walk → Stop → List Token → Walk
then_walk walked (stands state) more = behind walked.begun (walk state more)
then_walk walked (unexpected_at state) more = walked

behind_then : (begun : List Begin) (walked : Walk) (stop : Stop) (more : List Token)
    → behind begun (then_walk walked stop more) ≡ then_walk (behind begun walked) stop more
behind_then begun walked (stands state) more = ap (λ b. record { begun = b; stop = (walk state more).stop }) (sym (append_assoc begun walked.begun (walk state more).begun))
behind_then begun walked (unexpected_at state) more = refl

stepped_joined : (token : Token) (front more : List Token) (came : Step State File)
    → ((state : State) → walk state (front ++ more) ≡ then_walk (walk state front) (walk state front).stop more)
    → walk_on (λ next. walk next (front ++ more)) token came
    ≡ then_walk (walk_on (λ next. walk next front) token came) (walk_on (λ next. walk next front) token came).stop more
stepped_joined token front more unexpected joined = refl
stepped_joined token front more (finished items) joined = refl
stepped_joined token front more (onward begun state) joined =
    ap (behind begun) (joined state) ∙ behind_then begun (walk state front) (walk state front).stop more

pub walk_joined : (front more : List Token) (state : State) → walk state (front ++ more) ≡ then_walk (walk state front) (walk state front).stop more
walk_joined [] more state = refl
walk_joined (token ∷ front) more state = stepped_joined token front more (step state token) (walk_joined front more)

-- where the first tokens come to a state
pub walk_from : (front more : List Token) (from state : State) (begun : List Begin) → walk from front ≡ record { begun = begun; stop = stands state }
    → walk from (front ++ more) ≡ behind begun (walk state more)
walk_from front more from state begun same = walk_joined front more from ∙ ap (λ walked. then_walk walked walked.stop more) same

-- where all come to a state, the first do
pub record StandsAfter (from : State) (front : List Token) : Type 0 where
  pub begun : List Begin
  pub state : State
  pub walked : walk from front ≡ record { begun = begun; stop = stands state }

front_stands_by : (from : State) (front : List Token) (walked : Walk) (stop : Stop) (more : List Token) (begun : List Begin) (state : State)
    → walk from front ≡ walked → walked.stop ≡ stop → then_walk walked stop more ≡ record { begun = begun; stop = stands state } → StandsAfter from front
front_stands_by from front walked (stands middle) more begun state first stop same =
    record { begun = walked.begun; state = middle; walked = first ∙ ap (λ s. record { begun = walked.begun; stop = s }) stop }
front_stands_by from front walked (unexpected_at at) more begun state first stop same =
    let other : walked.stop ≡ stands state = ap (λ (w : Walk). w.stop) same in
    absurd cc

pub front_stands : (from : State) (front more : List Token) (begun : List Begin) (state : State)
    → walk from (front ++ more) ≡ record { begun = begun; stop = stands state } → StandsAfter from front
front_stands from front more begun state same =
    front_stands_by from front (walk from front) (walk from front).stop more begun state refl refl (sym (walk_joined front more from) ∙ same)

-- the reading of a token that can stand
pub walk_stepped : (token : Token) (rest : List Token) (from next : State) (begun : List Begin) → step from token ≡ onward begun next
    → walk from (token ∷ rest) ≡ behind begun (walk next rest)
walk_stepped token rest from next begun same = ap (walk_on (λ state. walk state rest) token) same

-- where a token and more tokens come to a state, the token can stand
pub record First (from : State) (token : Token) (rest : List Token) (begun : List Begin) (state : State) : Type 0 where
  pub first : List Begin
  pub others : List Begin
  pub next : State
  pub stepped : step from token ≡ onward first next
  pub walked : walk next rest ≡ record { begun = others; stop = stands state }
  pub joined : begun ≡ first ++ others

first_by : (from : State) (token : Token) (rest : List Token) (begun : List Begin) (state : State) (came : Step State File) → step from token ≡ came
    → walk_on (λ next. walk next rest) token came ≡ record { begun = begun; stop = stands state } → First from token rest begun state
first_by from token rest begun state (onward first next) is same = record {
  first = first;
  others = (walk next rest).begun;
  next = next;
  stepped = is;
  walked = ap (λ (w : Walk). record { begun = (walk next rest).begun; stop = w.stop }) same;
  joined = sym (ap (λ (w : Walk). w.begun) same);
}
first_by from token rest begun state came is same =
    let other : unexpected_at token.at ≡ stands state = ap (λ (w : Walk). w.stop) same in
    absurd cc

pub first_stands : (from : State) (token : Token) (rest : List Token) (begun : List Begin) (state : State)
    → walk from (token ∷ rest) ≡ record { begun = begun; stop = stands state } → First from token rest begun state
first_stands from token rest begun state same = first_by from token rest begun state (step from token) refl same
