-- What `runsv` refuses, and the log that it writes: that of the clocked meaning of the module of the process in a text.
use Rattle.std.specs.Prelude.{◌≡◌, ℕ, List, [], ◌∷◌, if◌then◌else◌, bytes_eq, Option, Some, None}
use Rattle.core_term.specs.Process.{Process}
use Rattle.sv_tree.specs.Module.{Module}
use Rattle.sv_tree.specs.Text.{IsTextOf}
use Rattle.sv_lines.specs.Refused.{IsNotEmitted}
use Rattle.module_log.specs.SamePorts.{HasPortsOf}
use Rattle.module_log.specs.Log.{module_shown}
use Rattle.tool_answers.specs.declared.refusal.Code.TheVariants as code
use Rattle.tool_answers.specs.declared.refusal.Refusal.{Refusal}
use Rattle.tool_answers.specs.declared.refusal.Refusal.TheVariants.{Bare, Placed}
use Rattle.checked_files.specs.Named.{IsProcessOf}
use Rattle.tool_stages.specs.Logs.{HasRows, IsBrokenLog, IsLog, IsLogFront, IsStimulusRefused}

-- the module of the name
abbrev pub module_named : List ℕ → List Module → Option Module
module_named name [] = None
module_named name (tree ∷ more) = if bytes_eq tree.proc name then Some tree else module_named name more

-- the text is of modules, of which this one has the name, and the ports and registers of the process
pub record IsModuleIn (p : Process) (name text : List ℕ) (tree : Module) : Type 0 where
  pub modules : List Module
  pub of_text : IsTextOf text modules
  pub named : module_named name modules ≡ Some tree
  pub same : HasPortsOf p tree

-- A text is refused: it is not of modules, or none has the name, or that one has other ports or registers.
pub data IsModuleRefused (p : Process) (name text : List ℕ) : Refusal → Type 0 where
  not_emitted : (place : ℕ) → IsNotEmitted text place → IsModuleRefused p name text (Placed code.NotEmitted place)
  no_module : (modules : List Module) → IsTextOf text modules → module_named name modules ≡ None
      → IsModuleRefused p name text (Bare code.NoModule)
  other_ports : (modules : List Module) (tree : Module) → IsTextOf text modules
      → module_named name modules ≡ Some tree → (HasPortsOf p tree → ⊥)
      → IsModuleRefused p name text (Bare code.OtherPorts)

-- the process of the name in the file, and its module in the text
pub record IsPair (bytes text name : List ℕ) (p : Process) (tree : Module) : Type 0 where
  pub of_file : IsProcessOf bytes name p
  pub of_text : IsModuleIn p name text tree

-- the stages of `runsv` with the file and the text, and with the stimulus

pub record HasModule (bytes text name : List ℕ) : Type 0 where
  pub process : Process
  pub tree : Module
  pub pair : IsPair bytes text name process tree

pub record HasModuleRun (bytes text name stimulus : List ℕ) : Type 0 where
  pub process : Process
  pub tree : Module
  pub pair : IsPair bytes text name process tree
  pub rows : HasRows process.ports stimulus

-- and what they refuse

pub record IsSvRefused (bytes text name : List ℕ) (refusal : Refusal) : Type 0 where
  pub process : Process
  pub of_file : IsProcessOf bytes name process
  pub refused : IsModuleRefused process name text refusal

pub record IsModuleTextRefused (bytes text name stimulus : List ℕ) (refusal : Refusal) : Type 0 where
  pub process : Process
  pub tree : Module
  pub pair : IsPair bytes text name process tree
  pub refused : IsStimulusRefused process.ports stimulus refusal

-- what is written: the whole log, a front part of it, or the log up to the first broken promise

pub record IsModuleLog (bytes text name stimulus written : List ℕ) : Type 0 where
  pub process : Process
  pub tree : Module
  pub pair : IsPair bytes text name process tree
  pub log : IsLog process (module_shown process tree) stimulus written

pub record IsModuleFront (bytes text name stimulus written : List ℕ) : Type 0 where
  pub process : Process
  pub tree : Module
  pub pair : IsPair bytes text name process tree
  pub log : IsLogFront process (module_shown process tree) stimulus written

pub record IsBrokenModule (bytes text name stimulus written line : List ℕ) : Type 0 where
  pub process : Process
  pub tree : Module
  pub pair : IsPair bytes text name process tree
  pub log : IsBrokenLog process (module_shown process tree) stimulus written line
