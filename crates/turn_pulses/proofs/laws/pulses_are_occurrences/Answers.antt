use Rattle.turn_pulses.specs.PulseLaws.{BeginsAt, OccursAt}
use Rattle.turn_pulses.proofs.Reflects.{reflects_iff}
use Rattle.turn_pulses.proofs.Pulses.{pulse_right}
use Rattle.turn_pulses.proofs.laws.pulses_are_occurrences.Goals as goal

pub returns : goal.returns
returns c = λ graph seen count begins when machine run cycle node live within.
    reflects_iff (pulse_right graph seen count (BeginsAt begins) (OccursAt when) run.timeline run.graph_is machine run.machine_is cycle node live within)
