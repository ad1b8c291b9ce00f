-- What `compile` writes for a file.
use Rattle.std.specs.Prelude.{◌≤◌, ℕ, List}
use Rattle.std.specs.List.{AllZip}
use Rattle.anvil_tree.specs.Tree.{File}
use Rattle.core_term.specs.Process.{Process}
use Rattle.core_term.specs.Rules.{KeepsDemands}
use Rattle.process_machine.specs.StateBits.{process_bound}
use Rattle.sv_tree.specs.Module.{Module}
use Rattle.sv_tree.specs.RegisterBits.{register_bits}
use Rattle.sv_tree.specs.WellFormed.{IsWellFormed}
use Rattle.sv_tree.specs.Text.{IsTextOf}
use Rattle.machine_meaning.specs.Meaning.{Agrees, LogsAlike, MeansReread}
use Rattle.machine_parts.specs.Digits.{digits}
use Rattle.fsm_builder.specs.ModuleOf.{IsModuleOf}
use Rattle.checked_files.specs.Check.{IsAcceptedFile, processes_in}

-- A module of a process: it is well-formed, has the process's name, ports and registers; its clocked meaning is a
-- re-reading run of the process, on all inputs that fit the ports, promises kept or not; where the process keeps the
-- timing rules, it agrees with the source run while the promises of its partners are kept, and has its log; and its
-- registers have no more bits than the bound.
pub record IsModule (p : Process) (m : Module) : Type 0 where
  pub well_formed : IsWellFormed m
  pub parts : IsModuleOf p m
  pub means : MeansReread p m
  pub agrees : KeepsDemands p → Agrees p m
  pub logs : KeepsDemands p → LogsAlike p m
  pub bits : register_bits m ≤ process_bound digits p

-- one module for each process, in the order of the processes
abbrev pub AreModules : List Process → List Module → Type 0
AreModules processes modules = AllZip IsModule processes modules

-- the same of the accepted file that the bytes spell, in the order of the file
pub record AreModulesOf (bytes : List ℕ) (modules : List Module) : Type 0 where
  pub file : File
  pub accepted : IsAcceptedFile bytes file
  pub describe : AreModules (processes_in file) modules
  -- while the promises of the partners are kept, each module agrees with the source run of its process; and it has the
  -- same log up to the same first broken promise
  pub agree : AllZip Agrees (processes_in file) modules
  pub logs : AllZip LogsAlike (processes_in file) modules

-- the text that is written for the file: that of such modules
pub record IsOutput (bytes text : List ℕ) : Type 0 where
  pub modules : List Module
  pub describe : AreModulesOf bytes modules
  pub of_modules : IsTextOf text modules
