use Rattle.run_laws.proofs.turn_points.TurnTails.{ordered}
use Rattle.run_laws.proofs.turns.order_law.Goals as goal

pub returns : goal.returns
returns c = λ inputs view body numbered i k a b d r left t e less. ordered inputs view body numbered i k a b d r left t e less
