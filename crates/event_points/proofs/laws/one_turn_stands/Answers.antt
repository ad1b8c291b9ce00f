use Rattle.event_points.proofs.Once.{stand}
use Rattle.event_points.proofs.laws.one_turn_stands.Goals as goal

pub returns : goal.returns
returns c = stand
