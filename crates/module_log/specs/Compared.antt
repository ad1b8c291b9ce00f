-- Ports and registers compared one by one, as the code does it.
use Rattle.std.specs.Prelude.{ℕ, ◌==◌, ◌&&◌, if◌then◌else◌, Bool, true, false, List, [], ◌∷◌, bytes_eq, not}
use Rattle.core_term.specs.declared.process.CorePort.{CorePort}
use Rattle.core_term.specs.declared.process.CoreReg.{CoreReg}
use Rattle.sv_tree.specs.declared.tree.SvPort.{SvPort}
use Rattle.sv_tree.specs.declared.tree.SvReg.{SvReg}
use Rattle.sv_tree.specs.declared.tree.SvRegName.{SvRegName}
use Rattle.sv_tree.specs.declared.tree.SvRegName.TheVariants.{Source, State}
use Rattle.sv_tree.specs.Sources.{is_source}

abbrev pub is_same_side : Bool → Bool → Bool
is_same_side true other = other
is_same_side false other = not other

abbrev pub is_same_port : CorePort → SvPort → Bool
is_same_port port other =
    bytes_eq port.endpoint other.endpoint
    && (bytes_eq port.message other.message
    && (is_same_side port.received other.received && (port.width == other.width)))

abbrev pub are_same_ports : List CorePort → List SvPort → Bool
are_same_ports [] [] = true
are_same_ports [] (other ∷ others) = false
are_same_ports (port ∷ ports) [] = false
are_same_ports (port ∷ ports) (other ∷ others) = is_same_port port other && are_same_ports ports others

abbrev pub is_named : List ℕ → SvRegName → Bool
is_named name (Source other) = bytes_eq name other
is_named name (State number) = false

abbrev pub is_same_register : CoreReg → SvReg → Bool
is_same_register reg other = is_named reg.name other.name && (reg.width == other.width)

-- states are passed over
abbrev pub are_same_registers : List CoreReg → List SvReg → Bool
are_same_registers [] [] = true
are_same_registers (reg ∷ regs) [] = false
are_same_registers [] (other ∷ others) = if is_source other.name then false else are_same_registers [] others
are_same_registers (reg ∷ regs) (other ∷ others) =
    if is_source other.name
    then is_same_register reg other && are_same_registers regs others
    else are_same_registers (reg ∷ regs) others
