use Rattle.event_points.proofs.Twice.{stand}
use Rattle.event_points.proofs.laws.two_turns_stand.Goals as goal

pub returns : goal.returns
returns c = stand
