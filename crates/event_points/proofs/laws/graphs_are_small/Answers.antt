use Rattle.event_points.proofs.Room.{small}
use Rattle.event_points.proofs.laws.graphs_are_small.Goals as goal

pub returns : goal.returns
returns c = small
