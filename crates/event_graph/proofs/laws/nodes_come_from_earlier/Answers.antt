use Rattle.event_graph.proofs.Early.{all_early}
use Rattle.event_graph.proofs.laws.nodes_come_from_earlier.Goals as goal

pub returns : goal.returns
returns c = all_early
