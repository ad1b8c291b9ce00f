-- The wires of the acts on ports so far are marked.
use Rattle.turn_plans.proofs.Wired.{MarkedSoFar}
use Rattle.turn_plans.proofs.wires.mark_wires.Given as goal

abbrev pub invariant-loop-site : goal.invariant-loop-site
invariant-loop-site l = MarkedSoFar l.deeds l.ends l.site l.fn.events l.events
