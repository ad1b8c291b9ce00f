use Rattle.event_points.proofs.OnceTimes.{occur}
use Rattle.event_points.proofs.laws.nodes_occur_in_turns.Goals as goal

pub returns : goal.returns
returns c = occur
