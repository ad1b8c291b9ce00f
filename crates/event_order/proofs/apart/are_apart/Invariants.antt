-- The arms that were passed oppose none of the others, so those that are left decide.
use Rattle.std.proofs.Common.{◌≡◌, drop}
use Rattle.event_graph.specs.Forms.{some_oppose}
use Rattle.event_order.proofs.apart.are_apart.Given as goal

abbrev pub invariant-loop-arm : goal.invariant-loop-arm
invariant-loop-arm l = some_oppose (drop l.arm-index l.arms) l.others ≡ some_oppose l.arms l.others
