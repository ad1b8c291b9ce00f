-- The registers so far are read, and the checks of those that are left decide.
use Rattle.std.proofs.Common.{drop}
use Rattle.width_check.proofs.RegisterSteps.{Standing}
use Rattle.width_check.proofs.registers.read_registers.Given as goal

abbrev pub invariant-loop-register : goal.invariant-loop-register
invariant-loop-register l = Standing l.fn.registers l.table (drop l.register-index l.fn.registers)
