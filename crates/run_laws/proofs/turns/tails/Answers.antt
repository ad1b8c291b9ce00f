use Rattle.run_laws.proofs.turn_points.TurnTails.{tailed}
use Rattle.run_laws.proofs.turns.tails.Goals as goal

pub returns : goal.returns
returns c = λ inputs view body numbered tail i e ends q scope start u runs. tailed inputs view body numbered tail i e ends q scope start u runs
