use Rattle.turn_machine.proofs.Reaching.{tail_reached, reached_tail}
use Rattle.turn_machine.proofs.laws.tail_is_reached.Goals as goal

pub returns : goal.returns
returns c = λ body body_is form apart node_of once node live.
    ((λ of_tail. tail_reached body body_is form apart node_of once node live of_tail), (λ reached. (reached_tail body body_is form apart node_of once node reached).1))
