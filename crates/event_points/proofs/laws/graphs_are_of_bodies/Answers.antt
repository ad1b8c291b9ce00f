use Rattle.event_points.proofs.Endings.{graph_is}
use Rattle.event_points.proofs.laws.graphs_are_of_bodies.Goals as goal

pub returns : goal.returns
returns c = λ p body n. graph_is p body n
