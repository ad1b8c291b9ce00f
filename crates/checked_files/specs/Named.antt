-- The process of a name in an accepted file.
use Rattle.std.specs.Prelude.{◌≡◌, ℕ, List, [], ◌∷◌, if◌then◌else◌, bytes_eq, Option, Some, None}
use Rattle.anvil_tree.specs.Tree.{File}
use Rattle.channel_classes.specs.Classes.{classes_of}
use Rattle.core_file.specs.CoreFile.{Placed, core_file}
use Rattle.core_term.specs.Process.{Process}
use Rattle.tool_answers.specs.declared.refusal.Code.TheVariants as code
use Rattle.tool_answers.specs.declared.refusal.Refusal.{Refusal}
use Rattle.tool_answers.specs.declared.refusal.Refusal.TheVariants.{Bare}
use Rattle.checked_files.specs.Check.{IsAcceptedFile, IsCheckRefused}

-- the process of the name
abbrev pub process_named : List ℕ → List Placed → Option Process
process_named name [] = None
process_named name (placed ∷ more) =
    if bytes_eq placed.process.name name then Some placed.process else process_named name more

-- the bytes spell an accepted file, in which this process has the name
pub record IsProcessOf (bytes name : List ℕ) (process : Process) : Type 0 where
  pub file : File
  pub accepted : IsAcceptedFile bytes file
  pub named : process_named name (core_file (classes_of file) file) ≡ Some process

-- or in which none has it
pub record HasNoProcess (bytes name : List ℕ) : Type 0 where
  pub file : File
  pub accepted : IsAcceptedFile bytes file
  pub named : process_named name (core_file (classes_of file) file) ≡ None

-- A file is refused as by `check`, or because no process has the name.
pub data IsProcessRefused (bytes name : List ℕ) : Refusal → Type 0 where
  by_check : (refusal : Refusal) → IsCheckRefused bytes refusal → IsProcessRefused bytes name refusal
  no_process : HasNoProcess bytes name → IsProcessRefused bytes name (Bare code.NoProcess)

-- a process has the name
pub record HasProcess (bytes name : List ℕ) : Type 0 where
  pub process : Process
  pub of_file : IsProcessOf bytes name process
