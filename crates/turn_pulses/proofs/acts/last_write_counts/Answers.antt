use Rattle.turn_pulses.proofs.Latest.{written, unwritten}
use Rattle.turn_pulses.proofs.acts.last_write_counts.Goals as goal

pub returns : goal.returns
returns c = λ begun value old count. (written begun value old count, unwritten begun value old count)
