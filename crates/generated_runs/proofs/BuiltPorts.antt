-- A module that was built for a process has its ports and its registers, as a run of the module on rows of the process needs.
use Rattle.std.proofs.Common.{◌≡◌, ◌∙◌, List, [], ◌∷◌, map, refl, ap}
use Rattle.core_term.specs.Process.{Process, Register}
use Rattle.sv_tree.specs.Module.{Module}
use Rattle.fsm_builder.specs.ModuleOf.{IsModuleOf, source_register}
use Rattle.module_log.specs.SamePorts.{HasPortsOf, of_module, of_process}

same_registers : (registers : List Register) → map of_module (map source_register registers) ≡ map of_process registers
same_registers [] = refl
same_registers (register ∷ registers) = ap (λ rest. of_process register ∷ rest) (same_registers registers)

pub has_ports : (p : Process) (tree : Module) → IsModuleOf p tree → HasPortsOf p tree
has_ports p tree is = record { ports = is.ports; registers = ap (map of_module) is.registers ∙ same_registers p.registers }
