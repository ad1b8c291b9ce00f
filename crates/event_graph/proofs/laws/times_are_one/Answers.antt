use Rattle.event_graph.proofs.Times.{times_same}
use Rattle.event_graph.proofs.laws.times_are_one.Goals as goal

pub returns : goal.returns
returns c = times_same
