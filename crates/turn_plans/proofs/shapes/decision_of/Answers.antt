use Rattle.turn_plans.proofs.NodesRead.{decision_last}
use Rattle.turn_plans.proofs.shapes.decision_of.Goals as goal

pub returns-in-Some : goal.returns-in-Some
returns-in-Some c = decision_last c.args.arms.now c.in-Some.arm.now c.in-Some.ensures.value
