-- The source registers so far are the same, so the rest decides.
use Rattle.std.proofs.Common.{◌≡◌, ◌≤◌, length, drop}
use Rattle.module_log.specs.Compared.{are_same_registers}
use Rattle.module_log.proofs.ports.same_registers.Given as goal

abbrev pub invariant-loop-place : goal.invariant-loop-place
invariant-loop-place l =
    (l.found ≤ length l.fn.regs)
    × (are_same_registers l.fn.regs l.fn.others ≡ are_same_registers (drop l.found l.fn.regs) (drop l.place l.fn.others))
