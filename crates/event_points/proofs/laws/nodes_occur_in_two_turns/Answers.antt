use Rattle.event_points.proofs.TwiceTimes.{occur}
use Rattle.event_points.proofs.laws.nodes_occur_in_two_turns.Goals as goal

pub returns : goal.returns
returns c = occur
