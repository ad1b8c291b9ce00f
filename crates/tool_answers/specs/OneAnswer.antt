-- That at most one answer of a call has its cause.
use Rattle.std.specs.Prelude.{◌≡◌, ℕ, List, [], Option}
use Rattle.tool_answers.specs.declared.refusal.Refusal.{Refusal}
use Rattle.tool_answers.specs.declared.status.Status.{Status}
use Rattle.tool_answers.specs.declared.status.Status.TheVariants.{Done, Refused, TooLong, Breach}
use Rattle.tool_answers.specs.Stages.{AreExact, Stage}
use Rattle.tool_answers.specs.Lines.{refusal_line, too_long_line}
use Rattle.tool_answers.specs.Answer.{Tells, Overflows, IsFirstRefusal, Ends, Breaks}

-- An answer that has its cause, and its line on standard error, where the shelf tells what is loaded and no fault
-- rises.
pub data HasCause (told : List ℕ → Option (List ℕ)) (begin : Stage) : Status → List ℕ → Type 0 where
  of_length : (loaded : List (List ℕ)) (long : Overflows told begin loaded)
      → HasCause told begin TooLong (too_long_line long.load.name)
  of_stage : (refusal : Refusal) → IsFirstRefusal (Tells told) begin refusal
      → HasCause told begin Refused (refusal_line refusal)
  of_text : (loaded : List (List ℕ)) → Ends (Tells told) begin loaded → HasCause told begin Done []
  of_breach : (text line : List ℕ) → Breaks (Tells told) begin text line → HasCause told begin Breach line

-- at most one has a cause, where the stages are exact
abbrev pub HasOneAnswer : Type 1
HasOneAnswer = (told : List ℕ → Option (List ℕ)) (begin : Stage) → AreExact begin.of
    → (one other : Status) (line said : List ℕ)
    → HasCause told begin one line → HasCause told begin other said → (one ≡ other) × (line ≡ said)
