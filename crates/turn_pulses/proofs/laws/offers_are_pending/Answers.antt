use Rattle.turn_pulses.specs.PulseLaws.{BeginsAt, OccursAt}
use Rattle.turn_pulses.proofs.Reflects.{reflects_iff}
use Rattle.turn_pulses.proofs.Pulses.{offer_right}
use Rattle.turn_pulses.proofs.laws.offers_are_pending.Goals as goal

pub returns : goal.returns
returns c = λ graph seen count begins when machine run cycle node from live within form_is.
    reflects_iff (offer_right graph seen count (BeginsAt begins) (OccursAt when) run.timeline run.graph_is machine run.machine_is cycle node from live within form_is)
