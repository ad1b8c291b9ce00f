-- Where a machine stands in what is seen of its module on rows.
use Rattle.std.specs.Prelude.{ℕ, ◌≡◌, List, take}
use Rattle.core_term.specs.declared.rows.Row.{Row}
use Rattle.core_term.specs.Process.{Process}
use Rattle.run_log.specs.Shown.{Shown}
use Rattle.sv_meaning.specs.State.{State}
use Rattle.sv_meaning.specs.Stands.{StandsAfter}
use Rattle.sv_tree.specs.WellFormed.{IsWellFormed}
use Rattle.module_log.specs.Log.{module_shown}
use Rattle.module_log.specs.SamePorts.{HasPortsOf}

-- its module is well-formed and has the ports of the process
pub record IsMachineOf (p : Process) (machine : State) : Type 0 where
  pub ports : HasPortsOf p machine.tree
  pub well_formed : IsWellFormed machine.tree

-- before the cycle of the number n: it is its module that is seen, and the machine stands after n rows
pub record StandsBefore (p : Process) (machine : State) (rows : List Row) (shown : Shown) (n : ℕ) : Type 0 where
  pub same : shown ≡ module_shown p machine.tree rows
  pub stands : StandsAfter (take n rows) machine
