use Rattle.turn_pulses.proofs.Latest.{latest, never}
use Rattle.turn_pulses.proofs.acts.latest_is_shown.Goals as goal

pub returns : goal.returns
returns c = λ begun choice shown kept latest_is. (latest begun choice shown kept latest_is, never begun choice shown kept latest_is)
