use Rattle.turn_pulses.proofs.Reflects.{reflects_iff}
use Rattle.turn_pulses.proofs.Pulses.{pulse_right}
use Rattle.turn_machine.proofs.Turns.{Begins}
use Rattle.turn_machine.proofs.Timeline.{Occurs, timeline}
use Rattle.turn_machine.proofs.laws.pulses_follow_turns.Goals as goal

pub returns : goal.returns
returns c = λ inputs registers decision body numbered tail graph seen point draws graph_is machine machine_is cycle node live within.
    reflects_iff (pulse_right graph seen inputs.count (Begins inputs registers decision body numbered tail) (Occurs inputs registers decision body numbered tail graph seen point draws)
    (timeline inputs registers decision body numbered tail graph seen point draws) graph_is machine machine_is cycle node live within)
