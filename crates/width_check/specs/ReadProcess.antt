-- A process that was read: no check of it fails, and what was read stands for its core process. Or why it was not read.
use Rattle.std.specs.Prelude.{◌≡◌, ◌⊎◌, None, Some, List}
use Rattle.anvil_tree.specs.Tree as tree
use Rattle.anvil_tree.specs.Tree.{Name, File}
use Rattle.anvil_tree.specs.Few.{IsFew}
use Rattle.core_term.specs.declared.process.CoreProc.{CoreProc}
use Rattle.first_check.specs.Check.{first_refusal}
use Rattle.channel_classes.specs.Classes.{Class, classes_of}
use Rattle.channel_classes.specs.ClassChecks.{checks_of_classes}
use Rattle.core_file.specs.CoreFile.{placed_of, placed_process}
use Rattle.core_file.specs.ProcessChecks.{process_checks}
use Rattle.core_file.specs.declared.error.NameErr.{NameErr}
use Rattle.core_file.specs.declared.error.NameErr.TheVariants.{NoMemory}

-- the classes are those of a file within the limits whose classes pass
pub record ClassesPass (classes : List Class) : Type 0 where
  pub file : File
  pub are : classes ≡ classes_of file
  pub pass : first_refusal (checks_of_classes file) ≡ None
  pub few : IsFew file

pub record ProcessRead (classes : List Class) (names : List Name) (written : tree.Process) (read : CoreProc) : Type 0 where
  pub passes : first_refusal (process_checks classes names written) ≡ None
  pub same : placed_of read ≡ placed_process classes written

pub record ProcessFails (classes : List Class) (names : List Name) (written : tree.Process) (fault : NameErr) : Type 0 where
  pub why : (fault ≡ NoMemory) ⊎ (first_refusal (process_checks classes names written) ≡ Some fault)
