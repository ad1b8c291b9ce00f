-- Two laws that join the definitions: a file without violations is one whose threads keep all demands, and what the
-- code keeps of a process makes it a process of the definitions.
use Rattle.std.specs.Prelude.{ℕ, List, IsTrue}
use Rattle.core_term.specs.declared.term.CoreTerm.{CoreTerm}
use Rattle.core_term.specs.declared.process.CorePort.{CorePort}
use Rattle.core_term.specs.declared.process.CoreReg.{CoreReg}
use Rattle.core_term.specs.Lists.{Has}
use Rattle.core_term.specs.Process.{Process, IsProcess}
use Rattle.core_term.specs.Rules.{KeepsDemands}
use Rattle.core_term.specs.Violations.{IsNth, HasNoViolations}
use Rattle.core_term.specs.Body.{IsBody}
use Rattle.core_term.specs.ProcessView.{process_of}
use Rattle.core_term.specs.Sized.{is_sized, is_owned}

abbrev pub AllKeepDemands : List Process → Type 0
AllKeepDemands file = (i : ℕ) (p : Process) → IsNth file i p → KeepsDemands p

-- The list of violations of a file is empty exactly where each of its threads keeps each of its demands.
abbrev pub NoViolationsKeepsDemands : Type 0
NoViolationsKeepsDemands =
    (file : List Process) → (HasNoViolations file → AllKeepDemands file) × (AllKeepDemands file → HasNoViolations file)

-- A core process that is sized and owned, with bodies that are numbered and tail-stepped, stands for a process.
abbrev pub CoreProcessIsProcess : Type 0
CoreProcessIsProcess =
    (name : List ℕ) (ports : List CorePort) (registers : List CoreReg) (threads : List CoreTerm)
    → IsTrue (is_sized name ports registers threads) → IsTrue (is_owned name ports registers threads)
    → ((body : CoreTerm) → Has threads body → IsBody body) → IsProcess (process_of name ports registers threads)
