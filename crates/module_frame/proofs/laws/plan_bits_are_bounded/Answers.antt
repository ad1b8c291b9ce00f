use Rattle.module_frame.proofs.PlanBits.{bounded}
use Rattle.module_frame.proofs.laws.plan_bits_are_bounded.Goals as goal

pub returns : goal.returns
returns c = bounded
