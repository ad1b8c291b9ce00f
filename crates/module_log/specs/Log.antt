-- What is seen of the module of a process on rows, whose log is put.
use Rattle.std.specs.Prelude.{List}
use Rattle.core_term.specs.declared.rows.Row.{Row}
use Rattle.core_term.specs.Process.{Process}
use Rattle.core_term.specs.Rows.{inputs_of}
use Rattle.machine_meaning.specs.ModuleRun.{shown_registers, shown_wires}
use Rattle.run_log.specs.Shown.{Shown}
use Rattle.sv_tree.specs.Module.{Module}

-- by the clocked meaning: its source registers, and the wires of all ports
abbrev pub module_shown : Process → Module → List Row → Shown
module_shown p tree rows =
    record { wires = shown_wires p tree (inputs_of rows); registers = shown_registers p tree (inputs_of rows) }
