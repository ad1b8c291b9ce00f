-- What each step keeps holds where a reading ends: a relation between a state and the text that has been read so far is kept
-- along the lines. So a reading with nothing left relates its last state to the whole text.
use Rattle.std.proofs.Common.{◌≡◌, ℕ, ◌+◌, Bool, true, false, List, [], ◌∷◌, ◌++◌, length, Option, Some, None, refl, ap, sym, ◌∙◌, append-nil, append_assoc}
use Rattle.std.specs.Prelude.{◌==◌}
use Rattle.sv_lines.specs.Refused.{BeginsText}
use Rattle.sv_lines.specs.State.{State, start}
use Rattle.sv_lines.specs.Step.{read_to_end, stopped, step, read_on}
use Rattle.sv_lines.proofs.read.Decided.{number_same}
use Rattle.sv_lines.proofs.answer.Fronts.{at_feed, elsewhere}
use Rattle.sv_lines.proofs.answer.NotEmitted.{Viable}

-- each line keeps what holds of a state and the text before it
abbrev pub StepsKeep : (State → List ℕ → Type 0) → Type 0
StepsKeep Holds = (from next : State) (before line : List ℕ) → Holds from before → step from line ≡ Some next → Holds next (before ++ (line ++ (10 ∷ [])))

pub record Kept (Holds : State → List ℕ → Type 0) (end : State) (left text : List ℕ) : Type 0 where
  pub front : List ℕ
  pub joined : text ≡ front ++ left
  pub holds : Holds end front

kept_by : (Holds : State → List ℕ → Type 0) → StepsKeep Holds → (from end : State) (place : ℕ) (before line left : List ℕ) (byte : ℕ) (text : List ℕ) (feed : Bool) (found : Option State)
    → (byte == 10) ≡ feed → step from line ≡ found
    → ((next : State) (place : ℕ) (before line : List ℕ) → Holds next before → read_on next place line text ≡ read_to_end end left → Kept Holds end left (before ++ (line ++ text)))
    → Holds from before → read_on from place line (byte ∷ text) ≡ read_to_end end left → Kept Holds end left (before ++ (line ++ (byte ∷ text)))
kept_by Holds keeps from end place before line left byte text true None is_feed is later holds e =
    let short : read_on from place line (byte ∷ text) ≡ stopped place = at_feed from place line byte text is_feed ∙ rw is refl in
    let clash : stopped place ≡ read_to_end end left = sym short ∙ e in
    absurd cc
kept_by Holds keeps from end place before line left byte text true (Some next) is_feed is later holds e =
    let short : read_on from place line (byte ∷ text) ≡ read_on next (place + length line + 1) [] text = at_feed from place line byte text is_feed ∙ rw is refl in
    let behind = before ++ (line ++ (10 ∷ [])) in
    let rest = later next (place + length line + 1) behind [] (keeps from next before line holds is) (sym short ∙ e) in
    let cut : behind ++ text ≡ before ++ (line ++ (10 ∷ text)) =
    append_assoc before (line ++ (10 ∷ [])) text ∙ ap (λ (piece : List ℕ). before ++ piece) (append_assoc line (10 ∷ []) text) in
    let is_ten = number_same byte 10 is_feed in
    rw is_ten (record { front = rest.front; joined = sym cut ∙ rest.joined; holds = rest.holds })
kept_by Holds keeps from end place before line left byte text false found is_feed is later holds e =
    let rest = later from place before (line ++ (byte ∷ [])) holds (sym (elsewhere from place line byte text is_feed) ∙ e) in
    let cut : (line ++ (byte ∷ [])) ++ text ≡ line ++ (byte ∷ text) = append_assoc line (byte ∷ []) text in
    record { front = rest.front; joined = ap (λ (piece : List ℕ). before ++ piece) (sym cut) ∙ rest.joined; holds = rest.holds }

pub kept_along : (Holds : State → List ℕ → Type 0) → StepsKeep Holds → (end : State) (left text : List ℕ) (from : State) (place : ℕ) (before line : List ℕ)
    → Holds from before → read_on from place line text ≡ read_to_end end left → Kept Holds end left (before ++ (line ++ text))
kept_along Holds keeps end left [] from place before line holds e =
    let same_state : from ≡ end = cc in
    let same_line : line ≡ left = cc in
    record { front = before; joined = ap (λ (piece : List ℕ). before ++ piece) (append-nil line ∙ same_line); holds = rw (← same_state) holds }
kept_along Holds keeps end left (byte ∷ text) from place before line holds e =
    kept_by Holds keeps from end place before line left byte text (byte == 10) (step from line) refl refl
    (λ next place before line holds e. kept_along Holds keeps end left text next place before line holds e) holds e

-- a reading from the start with nothing left
pub kept_whole : (Holds : State → List ℕ → Type 0) → StepsKeep Holds → Holds start [] → (end : State) (text : List ℕ) → read_on start 0 [] text ≡ read_to_end end [] → Holds end text
kept_whole Holds keeps begins end text e =
    let kept = kept_along Holds keeps end [] text start 0 [] [] begins e in
    let same : text ≡ kept.front = kept.joined ∙ append-nil kept.front in
    rw same kept.holds

pub viable_by : (Holds : State → List ℕ → Type 0) → StepsKeep Holds → Holds start [] → ((state : State) (front : List ℕ) → Holds state front → BeginsText front) → Viable
viable_by Holds keeps begins goes_on = λ front state e. goes_on state front (kept_whole Holds keeps begins state front e)
