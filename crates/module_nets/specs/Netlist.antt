-- A netlist is a module as it grows: its ports and registers stand from the start, and nets are added at the end. It is
-- seen as a module that has no name, no outputs and no next values yet.
use Rattle.std.specs.Prelude.{◌≡◌, ℕ, ◌<◌, ◌≤◌, IsTrue, List, [], ◌++◌, length, map}
use Rattle.std.specs.List.{list_all}
use Rattle.sv_tree.specs.declared.tree.SvPort.{SvPort}
use Rattle.sv_tree.specs.declared.tree.SvReg.{SvReg}
use Rattle.sv_tree.specs.declared.tree.SvNet.{SvNet}
use Rattle.sv_tree.specs.declared.tree.SvOp.{SvOp}
use Rattle.sv_tree.specs.declared.tree.SvOperand.{SvOperand}
use Rattle.sv_tree.specs.declared.tree.SvOut.{SvOut}
use Rattle.sv_tree.specs.Module.{Module}
use Rattle.sv_tree.specs.Limits.{too_many, widest}
use Rattle.sv_tree.specs.WellFormed.{is_operand_of, is_width, nets_fit, op_fits, outs_fit, nexts_fit, reset_fits}
use Rattle.sv_tree.specs.WellFormed.{is_port_name, is_register_name, has_no_twice, is_same_port, is_same_register}
use Rattle.sv_tree.specs.WellFormed.{sources_then_states}
use Rattle.module_nets.specs.declared.signal.Signal.{Signal}
use Rattle.module_nets.specs.Shifts.{shifts_stay}

abbrev pub netlist : List SvPort → List SvReg → List SvNet → Module
netlist ports regs nets = record { proc = []; ports = ports; regs = regs; nets = nets; outs = []; nexts = [] }

-- the new module has the ports and registers of the old one, and the nets of the old one first
pub record Extends (old new : Module) : Type 0 where
  pub ports : new.ports ≡ old.ports
  pub regs : new.regs ≡ old.regs
  pub more : List SvNet
  pub nets : new.nets ≡ old.nets ++ more

-- a signal that stands in a netlist, and so in each module that extends it
pub record Stands (old : Module) (signal : Signal) : Type 0 where
  pub some : 1 ≤ signal.width
  pub few : signal.width ≤ widest
  pub stands : (new : Module) → Extends old new
      → IsTrue (is_operand_of new (length old.nets) signal.width signal.operand)

-- ports and registers of a well-formed module
pub record IsFrame (ports : List SvPort) (regs : List SvReg) : Type 0 where
  pub port_names : IsTrue (list_all is_port_name ports)
  pub register_names_good : IsTrue (list_all (λ reg. is_register_name reg.name) regs)
  pub ports_differ : IsTrue (has_no_twice is_same_port ports)
  pub registers_differ : IsTrue (has_no_twice is_same_register (map (λ reg. reg.name) regs))
  pub order : IsTrue (sources_then_states (map (λ reg. reg.name) regs))
  pub port_widths : IsTrue (list_all (λ port. is_width port.width) ports)
  pub register_widths : IsTrue (list_all (λ reg. is_width reg.width) regs)
  pub resets : IsTrue (list_all reset_fits regs)
  pub few_ports : length ports < too_many
  pub few_registers : length regs < too_many

-- what the type keeps: in each module that extends it, its nets fit; and no shift is by a literal of the width or more
pub record IsNetlist (old : Module) : Type 0 where
  pub frame : IsFrame old.ports old.regs
  pub fit : (new : Module) → Extends old new → IsTrue (nets_fit new 0 old.nets)
  pub widths : IsTrue (list_all (λ net. is_width net.width) old.nets)
  pub few : length old.nets < too_many
  pub shifts : IsTrue (shifts_stay old.nets)

-- an operator that fits a net of `width` bits after those of the netlist
abbrev pub Fits : Module → (width : ℕ) → SvOp → Type 0
Fits old width op = (new : Module) → Extends old new → IsTrue (op_fits new (length old.nets) width op)

-- outputs that fit the ports, and next values that fit the registers
abbrev pub OutsFit : Module → List SvPort → List SvOut → Type 0
OutsFit old ports outs = (new : Module) → Extends old new → IsTrue (outs_fit new ports outs)

abbrev pub NextsFit : Module → List SvReg → List SvOperand → Type 0
NextsFit old regs nexts = (new : Module) → Extends old new → IsTrue (nexts_fit new regs nexts)
