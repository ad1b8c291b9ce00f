-- The first sites so far are settled.
use Rattle.send_check.specs.Settled.{AreFoundTo}
use Rattle.send_check.proofs.pairs.pairs_of.Given as goal

abbrev pub invariant-loop-first : goal.invariant-loop-first
invariant-loop-first l = AreFoundTo l.judge l.rule l.first 0 l.pairs.items
