-- The registers of an emitted module that the source has too: those with a name. The others keep a state and have a
-- number.
use Rattle.std.specs.Prelude.{Bool, true, false, List, filter}
use Rattle.sv_tree.specs.declared.tree.SvReg.{SvReg}
use Rattle.sv_tree.specs.declared.tree.SvRegName.{SvRegName}
use Rattle.sv_tree.specs.declared.tree.SvRegName.TheVariants.{Source, State}
use Rattle.sv_tree.specs.Module.{Module}

abbrev pub is_source : SvRegName → Bool
is_source (Source name) = true
is_source (State number) = false

-- in their order
abbrev pub source_registers : Module → List SvReg
source_registers tree = filter (λ reg. is_source reg.name) tree.regs
