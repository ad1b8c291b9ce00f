use Rattle.turn_pulses.proofs.Counters.{counter_fits}
use Rattle.turn_pulses.proofs.laws.counters_fit.Goals as goal

pub returns : goal.returns
returns c = λ graph seen machine machine_is cycle node delay from live form_is. counter_fits graph seen machine machine_is cycle node delay from live form_is
