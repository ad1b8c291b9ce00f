-- The log of a run of a process on the rows of a stimulus, whichever run it is, and why a stimulus has none.
--
-- `shown` is what is seen of the run on rows.
use Rattle.std.specs.Prelude.{◌≡◌, ℕ, ◌+◌, ◌≤◌, List, length}
use Rattle.core_term.specs.declared.rows.Row.{Row}
use Rattle.core_term.specs.Breach.{IsFirstBreach}
use Rattle.core_term.specs.Process.{Port, Process, nth_port}
use Rattle.stim_text.specs.Answers.{AreRowsOf, IsFirstBadLine, HasTooManyRows}
use Rattle.run_log.specs.Shown.{Shown}
use Rattle.run_log.specs.Log.{IsKeptTo, log_to}
use Rattle.tool_answers.specs.declared.refusal.Code.TheVariants as code
use Rattle.tool_answers.specs.declared.refusal.Refusal.{Refusal}
use Rattle.tool_answers.specs.declared.refusal.Refusal.TheVariants.{Bare, Lined}
use Rattle.tool_answers.specs.Lines.{promise_line}

-- A stimulus of these ports is refused for its first line that is no row, counted from 1, or since it has too many.
pub data IsStimulusRefused (ports : List Port) (text : List ℕ) : Refusal → Type 0 where
  bad_line : (n : ℕ) → IsFirstBadLine ports text n → IsStimulusRefused ports text (Lined code.BadStim (n + 1))
  too_many : HasTooManyRows ports text → IsStimulusRefused ports text (Bare code.TooManyRows)

-- or it has rows
pub record HasRows (ports : List Port) (text : List ℕ) : Type 0 where
  pub rows : List Row
  pub are : AreRowsOf ports text rows

-- the whole log: every promise is kept
pub record IsLog (p : Process) (shown : List Row → Shown) (stimulus text : List ℕ) : Type 0 where
  pub rows : List Row
  pub are : AreRowsOf p.ports stimulus rows
  pub kept : IsKeptTo p (shown rows) (length rows)
  pub is : text ≡ log_to p (shown rows) (length rows)

-- lines of the log of cycles in which every promise is kept: a front part of what is written
pub record IsLogFront (p : Process) (shown : List Row → Shown) (stimulus text : List ℕ) : Type 0 where
  pub rows : List Row
  pub are : AreRowsOf p.ports stimulus rows
  pub lines : ℕ
  pub within : lines ≤ length rows
  pub kept : IsKeptTo p (shown rows) lines
  pub is : text ≡ log_to p (shown rows) lines

-- the line of a broken promise
abbrev pub breach_line : ℕ → Port → List ℕ
breach_line cycle port = promise_line cycle port.endpoint port.message

-- the log of the cycles before the first broken promise, and the line that tells cycle and port
pub record IsBrokenLog (p : Process) (shown : List Row → Shown) (stimulus text line : List ℕ) : Type 0 where
  pub rows : List Row
  pub are : AreRowsOf p.ports stimulus rows
  pub cycle : ℕ
  pub port : ℕ
  pub first : IsFirstBreach p (shown rows).wires cycle port
  pub is : text ≡ log_to p (shown rows) cycle
  pub told : line ≡ breach_line cycle (nth_port p.ports port)
