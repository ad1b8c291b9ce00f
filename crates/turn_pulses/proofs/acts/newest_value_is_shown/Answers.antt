use Rattle.turn_pulses.proofs.Newest.{value_is, other_is}
use Rattle.turn_pulses.proofs.acts.newest_value_is_shown.Goals as goal

pub returns : goal.returns
returns c = λ count begun shown kept newest_is value other cycle. (value_is count begun shown kept newest_is value other cycle, other_is count begun shown kept newest_is value other cycle)
