use Rattle.event_graph.proofs.Times.{have_times}
use Rattle.event_graph.proofs.laws.nodes_have_times.Goals as goal

pub returns : goal.returns
returns c = have_times
