use Rattle.std.proofs.Common.{◌≡◌, map}
use Rattle.std.proofs.Math.ListN.{take}
use Rattle.core_term.specs.ProcessView.{register_of}
use Rattle.core_term.specs.Rows.{zero_register}
use Rattle.core_term.proofs.rows.zero_registers_of.Given as goal

abbrev pub invariant-loop-register : goal.invariant-loop-register
invariant-loop-register l = l.numbers.items ≡ map zero_register (map register_of (take l.register-index l.registers))
