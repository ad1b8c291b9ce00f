-- A module that has the ports and the source registers of a process. Its name and its resets may be others.
use Rattle.std.specs.Prelude.{ℕ, ◌≡◌, map}
use Rattle.core_term.specs.Process.{Port, Process, Register}
use Rattle.sv_tree.specs.declared.tree.SvPort.{SvPort}
use Rattle.sv_tree.specs.declared.tree.SvReg.{SvReg}
use Rattle.sv_tree.specs.declared.tree.SvRegName.{SvRegName}
use Rattle.sv_tree.specs.declared.tree.SvRegName.TheVariants.{Source}
use Rattle.sv_tree.specs.Module.{Module}
use Rattle.sv_tree.specs.Sources.{source_registers}

-- a port of a process as one of a module, without its life
abbrev pub module_port : Port → SvPort
module_port port =
    record { endpoint = port.endpoint; message = port.message; received = port.received; width = port.width }

-- what is compared of a register
pub record Named : Type 0 where
  pub name : SvRegName
  pub width : ℕ

abbrev pub of_module : SvReg → Named
of_module reg = record { name = reg.name; width = reg.width }

abbrev pub of_process : Register → Named
of_process register = record { name = Source register.name; width = register.width }

-- ports and registers in the order of the process
pub record HasPortsOf (p : Process) (m : Module) : Type 0 where
  pub ports : m.ports ≡ map module_port p.ports
  pub registers : map of_module (source_registers m) ≡ map of_process p.registers
