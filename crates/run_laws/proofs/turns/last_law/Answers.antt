use Rattle.run_laws.proofs.turn_points.TurnTails.{last}
use Rattle.run_laws.proofs.turns.last_law.Goals as goal

pub returns : goal.returns
returns c = λ p process inputs registers j thread is i k q m d b r t e short less. last p process inputs registers j thread is i k q m d b r t e short less
