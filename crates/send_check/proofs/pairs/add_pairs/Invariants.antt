-- The pairs so far are settled.
use Rattle.send_check.specs.Settled.{AreFoundTo}
use Rattle.send_check.proofs.pairs.add_pairs.Given as goal

abbrev pub invariant-loop-second : goal.invariant-loop-second
invariant-loop-second l = AreFoundTo l.judge l.rule l.first l.second l.pairs.items
