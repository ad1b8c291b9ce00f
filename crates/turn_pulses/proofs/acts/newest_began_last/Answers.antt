use Rattle.turn_pulses.proofs.Reflects.{reflects_iff}
use Rattle.turn_pulses.proofs.Newest.{newest}
use Rattle.turn_pulses.proofs.acts.newest_began_last.Goals as goal

pub returns : goal.returns
returns c = λ count begun shown kept newest_is act cycle below. reflects_iff (newest count begun shown kept newest_is act cycle below)
