-- The registers so far show their resets.
use Rattle.std.proofs.Common.{◌≡◌, map, take}
use Rattle.sim_laws.specs.WidthsFound.{start_number}
use Rattle.source_sim.proofs.start.start_registers.Given as goal

abbrev pub invariant-loop-reg : goal.invariant-loop-reg
invariant-loop-reg l = l.numbers.items ≡ map start_number (take l.reg-index l.regs)
