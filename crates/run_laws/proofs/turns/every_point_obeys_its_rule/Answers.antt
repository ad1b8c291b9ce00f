use Rattle.run_laws.proofs.turn_points.TurnRules.{obeys_rules}
use Rattle.run_laws.proofs.turns.every_point_obeys_its_rule.Goals as goal

pub returns : goal.returns
returns c = λ inputs view body numbered i. obeys_rules inputs view body numbered i
