use Rattle.turn_nodes.proofs.Sides.{all_sides}
use Rattle.turn_nodes.proofs.laws.sides_are_drawn.Goals as goal

pub returns : goal.returns
returns c = all_sides
