-- A limited reading that goes on stands where the unlimited reading stands, after things that all fit, with the open brackets within
-- the limit all the way; its tally tells the numbers and the brackets. One that is refused went on so up to some token, and was refused
-- there: the token cannot stand, or is past a limit after the things and brackets of those before it. By induction on the tokens, with
-- what one token does.
use Rattle.std.proofs.Common.{◌≡◌, ◌≤◌, ℕ, List, [], ◌∷◌, ◌++◌, ◌∙◌, refl, sym, subst, ap}
use Rattle.anvil_lexer.specs.declared.token.Token.{Token}
use Rattle.anvil_grammar.specs.declared.error.Counted.{Counted}
use Rattle.anvil_grammar.specs.declared.error.ParseErr.{ParseErr}
use Rattle.anvil_grammar.specs.Begun.{Begin, count}
use Rattle.anvil_grammar.specs.Limits.{most_open, open_after, open_brackets}
use Rattle.anvil_grammar.specs.State.{State}
use Rattle.anvil_grammar.specs.Step.{step, onward, walk, stands, behind}
use Rattle.anvil_grammar.specs.Limited.{Tally, Verdict, goes_on, refused, take_token, read_on, read}
use Rattle.anvil_grammar.proofs.Walk.Joined.{walk_stepped}
use Rattle.anvil_grammar.proofs.Limited.Counts.{Numbers, after_all, AllFit, fit_both, count_both, Tells, AllBounded, bounded_all}
use Rattle.anvil_grammar.proofs.Limited.Taken.{Takes, taken, IsRefusedAt, cannot_stand, opens_deep, begins_past, not_taken}

-- the brackets are within the limit before each token and at the end
abbrev pub AllShallow : ℕ → List Token → Type 0
AllShallow depth [] = depth ≤ most_open
AllShallow depth (token ∷ tokens) = (depth ≤ most_open) × AllShallow (open_after depth token.kind) tokens

pub shallow_front : (front rest : List Token) (depth : ℕ) → AllShallow depth (front ++ rest) → open_brackets depth front ≤ most_open
shallow_front [] [] depth shallow = shallow
shallow_front [] (token ∷ rest) depth shallow = shallow.0
shallow_front (token ∷ front) rest depth shallow = shallow_front front rest (open_after depth token.kind) shallow.1

-- a reading within the limits
pub record GoesOn (from : State) (many : Numbers) (depth : ℕ) (tokens : List Token) (state : State) (left : Tally) : Type 0 where
  pub begun : List Begin
  pub walked : walk from tokens ≡ record { begun = begun; stop = stands state }
  pub fit : AllFit many begun
  pub tells : Tells left (after_all many begun)
  pub brackets : left.open_brackets ≡ open_brackets depth tokens
  pub shallow : AllShallow depth tokens

walked_on : (token : Token) (rest : List Token) (from next state : State) (first begun : List Begin) → step from token ≡ onward first next
    → walk next rest ≡ record { begun = begun; stop = stands state } → walk from (token ∷ rest) ≡ record { begun = first ++ begun; stop = stands state }
walked_on token rest from next state first begun stepped walked = walk_stepped token rest from next first stepped ∙ ap (behind first) walked

tells_both : (left : Tally) (many : Numbers) (first begun : List Begin) → Tells left (after_all (after_all many first) begun) → Tells left (after_all many (first ++ begun))
tells_both left many first begun tells kind = tells kind ∙ sym (count_both first begun kind (many kind))

goes_token : (from next state : State) (many : Numbers) (token : Token) (rest : List Token) (tally left middle : Tally) → tally.open_brackets ≤ most_open
    → (one : Takes from tally many token next middle) → GoesOn next (after_all many one.begun) middle.open_brackets rest state left
    → GoesOn from many tally.open_brackets (token ∷ rest) state left
goes_token from next state many token rest tally left middle less one others = record {
  begun = one.begun ++ others.begun;
  walked = walked_on token rest from next state one.begun others.begun one.stepped others.walked;
  fit = fit_both one.begun others.begun many one.fit others.fit;
  tells = tells_both left many one.begun others.begun others.tells;
  brackets = others.brackets ∙ ap (λ d. open_brackets d rest) one.depth;
  shallow = (less, subst (λ d. AllShallow d rest) one.depth others.shallow);
}

abbrev GoingOn : List Token → Type 0
GoingOn tokens = (from state : State) (many : Numbers) (tally left : Tally) → Tells tally many → tally.open_brackets ≤ most_open
    → read from tally tokens ≡ goes_on state left → GoesOn from many tally.open_brackets tokens state left

goes_by : (token : Token) (rest : List Token) → GoingOn rest → (from state : State) (many : Numbers) (tally left : Tally) (found : Verdict) → Tells tally many
    → tally.open_brackets ≤ most_open → take_token from tally token ≡ found → read_on (λ next many. read next many rest) found ≡ goes_on state left
    → GoesOn from many tally.open_brackets (token ∷ rest) state left
goes_by token rest going from state many tally left (goes_on next middle) tells less is same =
    let one = taken token tally middle many from next tells less is in
    goes_token from next state many token rest tally left middle less one (going next state (after_all many one.begun) middle left one.tells one.shallow same)
goes_by token rest going from state many tally left (refused refusal) tells less is same = absurd cc

pub read_goes : (tokens : List Token) → GoingOn tokens
read_goes [] from state many tally left tells less same =
    let places : from ≡ state = cc in
    let tallies : tally ≡ left = cc in
    subst (λ p. GoesOn from many tally.open_brackets [] p left) places (subst (λ l. GoesOn from many tally.open_brackets [] from l) tallies
    (record { begun = []; walked = refl; fit = tt; tells = tells; brackets = refl; shallow = less }))
read_goes (token ∷ rest) from state many tally left tells less same =
    goes_by token rest (read_goes rest) from state many tally left (take_token from tally token) tells less refl same

-- the numbers before the token are the same
refused_same : (state : State) (many other : Numbers) (depth : ℕ) (token : Token) (refusal : ParseErr) → ((kind : Counted) → many kind ≡ other kind)
    → IsRefusedAt state many depth token refusal → IsRefusedAt state other depth token refusal
refused_same state many other depth token refusal same (cannot_stand stuck) = cannot_stand stuck
refused_same state many other depth token refusal same (opens_deep begun next is full opens bracket) = opens_deep begun next is full opens bracket
refused_same state many other depth token refusal same (begins_past begun next is shallow before after begin joined full) =
    begins_past begun next is shallow before after begin joined (ap (λ m. count begin.kind m before) (sym (same begin.kind)) ∙ full)

-- a reading within the limits that is refused at a token
pub record StopsAt (from : State) (many : Numbers) (depth : ℕ) (tokens : List Token) (refusal : ParseErr) : Type 0 where
  pub front : List Token
  pub token : Token
  pub rest : List Token
  pub joined : tokens ≡ front ++ (token ∷ rest)
  pub begun : List Begin
  pub state : State
  pub walked : walk from front ≡ record { begun = begun; stop = stands state }
  pub fit : AllFit many begun
  pub shallow : AllShallow depth front
  pub at : IsRefusedAt state (after_all many begun) (open_brackets depth front) token refusal

abbrev Stopping : List Token → Type 0
Stopping tokens = (from : State) (many : Numbers) (tally : Tally) (refusal : ParseErr) → Tells tally many → AllBounded many → tally.open_brackets ≤ most_open
    → read from tally tokens ≡ refused refusal → StopsAt from many tally.open_brackets tokens refusal

stops_later : (from next : State) (many : Numbers) (token : Token) (rest : List Token) (tally middle : Tally) (refusal : ParseErr) → tally.open_brackets ≤ most_open
    → (one : Takes from tally many token next middle) → StopsAt next (after_all many one.begun) middle.open_brackets rest refusal
    → StopsAt from many tally.open_brackets (token ∷ rest) refusal
stops_later from next many token rest tally middle refusal less one others = record {
  front = token ∷ others.front;
  token = others.token;
  rest = others.rest;
  joined = ap (λ tokens. token ∷ tokens) others.joined;
  begun = one.begun ++ others.begun;
  state = others.state;
  walked = walked_on token others.front from next others.state one.begun others.begun one.stepped others.walked;
  fit = fit_both one.begun others.begun many one.fit others.fit;
  shallow = (less, subst (λ d. AllShallow d others.front) one.depth others.shallow);
  at = refused_same others.state _ (after_all many (one.begun ++ others.begun)) _ others.token refusal (λ kind. sym (count_both one.begun others.begun kind (many kind)))
      (subst (λ d. IsRefusedAt others.state (after_all (after_all many one.begun) others.begun) (open_brackets d others.front) others.token refusal) one.depth others.at);
}

stops_by : (token : Token) (rest : List Token) → Stopping rest → (from : State) (many : Numbers) (tally : Tally) (refusal : ParseErr) (found : Verdict) → Tells tally many
    → AllBounded many → tally.open_brackets ≤ most_open → take_token from tally token ≡ found → read_on (λ next many. read next many rest) found ≡ refused refusal
    → StopsAt from many tally.open_brackets (token ∷ rest) refusal
stops_by token rest stopping from many tally refusal (goes_on next middle) tells bounded less is same =
    let one = taken token tally middle many from next tells less is in
    stops_later from next many token rest tally middle refusal less one
    (stopping next (after_all many one.begun) middle refusal one.tells (bounded_all one.begun many bounded one.fit) one.shallow same)
stops_by token rest stopping from many tally refusal (refused other) tells bounded less is same = record {
  front = [];
  token = token;
  rest = rest;
  joined = refl;
  begun = [];
  state = from;
  walked = refl;
  fit = tt;
  shallow = less;
  at = not_taken token tally many from refusal tells bounded less (is ∙ same);
}

pub read_stops : (tokens : List Token) → Stopping tokens
read_stops [] from many tally refusal tells bounded less same = absurd cc
read_stops (token ∷ rest) from many tally refusal tells bounded less same =
    stops_by token rest (read_stops rest) from many tally refusal (take_token from tally token) tells bounded less refl same
