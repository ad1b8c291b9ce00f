-- A text that is read to its end, from the start on, comes to a state that keeps all this, and what was read up to it begins a
-- valid text.
use Rattle.std.proofs.Common.{◌≡◌, ℕ, ◌+◌, Bool, true, false, List, [], ◌∷◌, ◌++◌, length, Option, Some, None, refl, subst}
use Rattle.std.specs.Prelude.{◌==◌}
use Rattle.sv_lines.specs.Refused.{BeginsText}
use Rattle.sv_lines.specs.State.{State, start, text_of}
use Rattle.sv_lines.specs.Step.{Outcome, read_to_end, step, line_read, read_on}
use Rattle.sv_lines.proofs.kept.KeptDrafts.{Kept}
use Rattle.sv_lines.proofs.kept.StepsKeep.{start_kept, step_keeps}
use Rattle.sv_lines.proofs.begun.Begins.{begins}

reached_by : (one other : State) (left more : List ℕ) → read_to_end one left ≡ read_to_end other more → one ≡ other
reached_by one other left more e = cc

step_by : (from reached : State) (place : ℕ) (line left : List ℕ) (found : Option State) (next : State → Outcome) → Kept from → step from line ≡ found
    → ((state : State) → Kept state → next state ≡ read_to_end reached left → Kept reached) → line_read place found next ≡ read_to_end reached left → Kept reached
step_by from reached place line left None next kept is later e = absurd cc
step_by from reached place line left (Some state) next kept is later e = later state (step_keeps from state line kept is) e

read_by : (from reached : State) (place byte : ℕ) (line left text : List ℕ) (ends : Bool) → Kept from
    → ((state : State) (place : ℕ) (line : List ℕ) → Kept state → read_on state place line text ≡ read_to_end reached left → Kept reached)
    → elim ends [
      | true ↦ line_read place (step from line) (λ next. read_on next (place + length line + 1) [] text)
      | false ↦ read_on from place (line ++ (byte ∷ [])) text
    ] ≡ read_to_end reached left → Kept reached
read_by from reached place byte line left text true kept later e =
    step_by from reached place line left (step from line) (λ next. read_on next (place + length line + 1) [] text) kept refl
    (λ state state_kept e. later state (place + length line + 1) [] state_kept e) e
read_by from reached place byte line left text false kept later e = later from place (line ++ (byte ∷ [])) kept e

pub read_keeps : (text : List ℕ) (from reached : State) (place : ℕ) (line left : List ℕ) → Kept from → read_on from place line text ≡ read_to_end reached left → Kept reached
read_keeps [] from reached place line left kept e = subst Kept (reached_by from reached line left e) kept
read_keeps (byte ∷ text) from reached place line left kept e =
    read_by from reached place byte line left text (byte == 10) kept (λ state place line state_kept e. read_keeps text state reached place line left state_kept e) e

pub read_begins : (text : List ℕ) (reached : State) (left : List ℕ) → read_on start 0 [] text ≡ read_to_end reached left → BeginsText (text_of reached)
read_begins text reached left e = begins reached (read_keeps text start reached 0 [] left start_kept e)
