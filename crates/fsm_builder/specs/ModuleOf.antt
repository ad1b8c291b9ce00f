-- A module of a process: its name, its ports, and the registers of the source.
use Rattle.std.specs.Prelude.{◌≡◌, map}
use Rattle.core_term.specs.Process.{Port, Process, Register}
use Rattle.sv_tree.specs.declared.tree.SvPort.{SvPort}
use Rattle.sv_tree.specs.declared.tree.SvReg.{SvReg}
use Rattle.sv_tree.specs.declared.tree.SvRegName.TheVariants.{Source}
use Rattle.sv_tree.specs.Module.{Module}
use Rattle.sv_tree.specs.Sources.{source_registers}

abbrev pub module_port : Port → SvPort
module_port port =
    record { endpoint = port.endpoint; message = port.message; received = port.received; width = port.width }

abbrev pub source_register : Register → SvReg
source_register register = record {
  name = Source register.name;
  width = register.width;
  reset = record { width = register.width; value = register.reset };
}

-- ports and registers in the order of the process
pub record IsModuleOf (p : Process) (m : Module) : Type 0 where
  pub named : m.proc ≡ p.name
  pub ports : m.ports ≡ map module_port p.ports
  pub registers : source_registers m ≡ map source_register p.registers
