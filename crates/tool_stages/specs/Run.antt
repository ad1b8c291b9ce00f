-- What `run` refuses, and the log that it writes: that of the source run of the process of the name.
use Rattle.std.specs.Prelude.{ℕ, List}
use Rattle.core_term.specs.Process.{Process}
use Rattle.source_log.specs.Log.{shown_on}
use Rattle.tool_answers.specs.declared.refusal.Refusal.{Refusal}
use Rattle.checked_files.specs.Named.{IsProcessOf}
use Rattle.tool_stages.specs.Logs.{HasRows, IsBrokenLog, IsLog, IsLogFront, IsStimulusRefused}

-- the stimulus has rows for the process of the name
pub record HasRun (bytes name stimulus : List ℕ) : Type 0 where
  pub process : Process
  pub of_file : IsProcessOf bytes name process
  pub of_text : HasRows process.ports stimulus

-- or is refused for it
pub record IsTextRefused (bytes name stimulus : List ℕ) (refusal : Refusal) : Type 0 where
  pub process : Process
  pub of_file : IsProcessOf bytes name process
  pub refused : IsStimulusRefused process.ports stimulus refusal

-- what is written: the whole log, a front part of it, or the log up to the first broken promise

pub record IsRunLog (bytes name stimulus text : List ℕ) : Type 0 where
  pub process : Process
  pub of_file : IsProcessOf bytes name process
  pub log : IsLog process (shown_on process) stimulus text

pub record IsRunFront (bytes name stimulus text : List ℕ) : Type 0 where
  pub process : Process
  pub of_file : IsProcessOf bytes name process
  pub log : IsLogFront process (shown_on process) stimulus text

pub record IsBrokenRun (bytes name stimulus text line : List ℕ) : Type 0 where
  pub process : Process
  pub of_file : IsProcessOf bytes name process
  pub log : IsBrokenLog process (shown_on process) stimulus text line
