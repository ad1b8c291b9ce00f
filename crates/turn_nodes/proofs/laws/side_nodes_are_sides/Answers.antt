use Rattle.turn_nodes.proofs.Sides.{side_node}
use Rattle.turn_nodes.proofs.laws.side_nodes_are_sides.Goals as goal

pub returns : goal.returns
returns c = λ body numbered node from is. let begun = side_node body numbered node from is in (begun.place, begun.first, begun.drawn)
