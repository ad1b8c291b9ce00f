-- The registers of a process that were read: no check of them fails, they are those of the definition, and each reset has its register's
-- width. Or why they were not read.
use Rattle.std.specs.Prelude.{◌≡◌, ◌⊎◌, [], None, Some, List, map}
use Rattle.anvil_tree.specs.declared.file.Register.{Register}
use Rattle.core_term.specs.declared.process.CoreReg.{CoreReg}
use Rattle.core_term.specs.Lists.{Has}
use Rattle.core_term.specs.ProcessView as core
use Rattle.first_check.specs.Check.{first_refusal}
use Rattle.core_file.specs.CoreProcess.{register_of}
use Rattle.core_file.specs.ProcessChecks.{registers_checks}
use Rattle.core_file.specs.declared.error.NameErr.{NameErr}
use Rattle.core_file.specs.declared.error.NameErr.TheVariants.{NoMemory}

pub record RegistersRead (written : List Register) (read : List CoreReg) : Type 0 where
  pub passes : first_refusal (registers_checks [] written) ≡ None
  pub same : map core.register_of read ≡ map register_of written
  pub resets : (register : CoreReg) → Has read register → register.reset.width ≡ register.width

pub record RegistersFail (written : List Register) (fault : NameErr) : Type 0 where
  pub why : (fault ≡ NoMemory) ⊎ (first_refusal (registers_checks [] written) ≡ Some fault)
