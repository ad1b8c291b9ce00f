-- The arms that were passed oppose nothing, so those that are left decide.
use Rattle.std.proofs.Common.{◌≡◌, drop}
use Rattle.event_graph.specs.Forms.{one_opposes}
use Rattle.event_order.proofs.apart.opposes_one.Given as goal

abbrev pub invariant-loop-other : goal.invariant-loop-other
invariant-loop-other l = one_opposes l.arm (drop l.other-index l.others) ≡ one_opposes l.arm l.others
