use Rattle.turn_machine.proofs.OneTurn.{graph_of_turn, turn_drawn}
use Rattle.turn_machine.proofs.laws.one_turn_is_drawn.Goals as goal

pub returns : goal.returns
returns c = λ body body_is form apart node_of once. (graph_of_turn body body_is form apart node_of once, turn_drawn body body_is form apart node_of once)
