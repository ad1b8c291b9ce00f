use Rattle.turn_nodes.proofs.Reached.{last_inside, of_tail, to_tail}
use Rattle.turn_nodes.proofs.laws.tails_are_reached.Goals as goal

pub returns : goal.returns
returns c = λ body body_is. (last_inside body body_is, λ node inside. (of_tail body body_is node inside, to_tail body body_is node))
