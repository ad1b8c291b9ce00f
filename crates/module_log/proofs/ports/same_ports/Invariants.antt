-- The ports so far are the same, so the rest decides.
use Rattle.std.proofs.Common.{◌≡◌, length, drop}
use Rattle.module_log.specs.Compared.{are_same_ports}
use Rattle.module_log.proofs.ports.same_ports.Given as goal

abbrev pub invariant-loop-index : goal.invariant-loop-index
invariant-loop-index l =
    (length l.fn.ports ≡ length l.fn.others)
    × (are_same_ports l.fn.ports l.fn.others ≡ are_same_ports (drop l.index l.fn.ports) (drop l.index l.fn.others))
