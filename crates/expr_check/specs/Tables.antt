-- The tests by which a port and a register are found.
use Rattle.std.specs.Prelude.{Bool, ◌&&◌, List, bytes_eq, map}
use Rattle.anvil_tree.specs.Tree.{Name}
use Rattle.core_term.specs.declared.process.CorePort.{CorePort}
use Rattle.core_term.specs.declared.process.CoreReg.{CoreReg}

abbrev pub is_port_named : Name → Name → CorePort → Bool
is_port_named endpoint message port = bytes_eq endpoint port.endpoint && bytes_eq message port.message

abbrev pub is_register_named : Name → CoreReg → Bool
is_register_named name register = bytes_eq name register.name

-- the names of registers, in order
abbrev pub names_of : List CoreReg → List Name
names_of registers = map (λ (register : CoreReg). register.name) registers
