-- That `runsv` of what `compile` wrote for a file puts what `run` puts.
use Rattle.std.specs.Prelude.{◌≡◌, ◌⊎◌, ℕ, List, Option, Some}
use Rattle.std.specs.Io.KnownBytes.{Appends}
use Rattle.command_words.specs.Form.{Form, runsv_form}
use Rattle.tool_answers.specs.declared.refusal.Refusal.{Refusal}
use Rattle.tool_answers.specs.declared.status.Status.{Status}
use Rattle.tool_answers.specs.declared.status.Status.TheVariants.{Done, Refused, Breach}
use Rattle.tool_answers.specs.Lines.{refusal_line}
use Rattle.checked_files.specs.Named.{HasProcess, IsProcessRefused}
use Rattle.tool_stages.specs.Output.{IsOutput}
use Rattle.tool_stages.specs.Run.{IsBrokenRun, IsRunLog, IsTextRefused}
use Rattle.tool_stages.specs.RunModule.{HasModule, IsBrokenModule, IsModuleLog}

-- the text has a module for each process of the file, and for each stimulus one whole log, or one log up to a broken
-- promise with one line
pub record HasOneLog (file text name stimulus : List ℕ) : Type 0 where
  pub has_module : HasProcess file name → HasModule file text name
  pub whole : (log : List ℕ)
      → (IsRunLog file name stimulus log → IsModuleLog file text name stimulus log)
      × (IsModuleLog file text name stimulus log → IsRunLog file name stimulus log)
  pub broken : (log line : List ℕ)
      → (IsBrokenRun file name stimulus log line → IsBrokenModule file text name stimulus log line)
      × (IsBrokenModule file text name stimulus log line → IsBrokenRun file name stimulus log line)

abbrev pub LogsAreOne : Type 0
LogsAreOne = (file text name stimulus : List ℕ) → IsOutput file text → HasOneLog file text name stimulus

-- The same as an answer of a call.

-- the words are `runsv FILE SV PROC STIM`; the shelf tells the bytes of FILE, under SV a text that `compile` writes for
-- them, and the bytes of STIM
pub record HasWritten (told : List ℕ → Option (List ℕ)) (form : Form) (bytes name stimulus : List ℕ) : Type 0 where
  pub file : List ℕ
  pub text : List ℕ
  pub rows : List ℕ
  pub is : form ≡ runsv_form file text name rows
  pub of_file : told file ≡ Some bytes
  pub modules : List ℕ
  pub of_text : told text ≡ Some modules
  pub written : IsOutput bytes modules
  pub of_rows : told rows ≡ Some stimulus

-- the answer is one that `run FILE PROC STIM` gives: the same log, the same broken promise, a refusal of its own
pub record AnswersAsRun (bytes name stimulus : List ℕ) (status : Status) (old new line_old line_new : Option (List ℕ))
    : Type 0 where
  pub done : status ≡ Done → (log : List ℕ) × IsRunLog bytes name stimulus log × Appends old new log
  pub breach : status ≡ Breach
      → (log : List ℕ) × (line : List ℕ) × IsBrokenRun bytes name stimulus log line × Appends old new log
      × Appends line_old line_new line
  pub refused : status ≡ Refused
      → (refusal : Refusal) × (IsProcessRefused bytes name refusal ⊎ IsTextRefused bytes name stimulus refusal)
      × Appends line_old line_new (refusal_line refusal)
