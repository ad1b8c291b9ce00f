-- The measures of the walk: the weights of the terms that a function is still to go over.
use Rattle.std.proofs.Common.{◌+◌}
use Rattle.thread_nets.proofs.Weight.{weight, weight_in}
use Rattle.thread_nets.proofs.walk.+walk.Given as goal

abbrev pub decreases-draw_act : goal.decreases-draw_act
decreases-draw_act l = weight_in l.act.now.kind + 1

abbrev pub decreases-draw_chain : goal.decreases-draw_chain
decreases-draw_chain l = (weight_in l.act.now.kind + 2) + weight l.rest.now

abbrev pub decreases-draw_if : goal.decreases-draw_if
decreases-draw_if l = (weight l.yes.now + weight l.no.now) + 1

abbrev pub decreases-draw_inside : goal.decreases-draw_inside
decreases-draw_inside l = weight_in l.kind.now

abbrev pub decreases-draw_term : goal.decreases-draw_term
decreases-draw_term l = weight l.term.now

abbrev pub decreases-draw_when : goal.decreases-draw_when
decreases-draw_when l = weight l.yes.now + 1
