-- What is marked is reached, and the nodes from here on have marked their predecessors.
use Rattle.turn_plans.proofs.Marked.{MarkedFrom}
use Rattle.turn_plans.proofs.tails.mark_tails.Given as goal

abbrev pub invariant-loop-node : goal.invariant-loop-node
invariant-loop-node l = MarkedFrom l.shapes l.last l.node l.tails

abbrev pub decreases-loop-node : goal.decreases-loop-node
decreases-loop-node l = l.node
