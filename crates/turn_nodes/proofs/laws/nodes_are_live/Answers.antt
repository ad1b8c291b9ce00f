use Rattle.turn_nodes.proofs.Drawn.{live, dead}
use Rattle.turn_nodes.proofs.laws.nodes_are_live.Goals as goal

pub returns : goal.returns
returns c = λ body numbered node. (live body numbered node, dead body numbered node)
