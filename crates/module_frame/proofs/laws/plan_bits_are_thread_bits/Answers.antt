use Rattle.module_frame.proofs.PlanBits.{told_bits}
use Rattle.module_frame.proofs.laws.plan_bits_are_thread_bits.Goals as goal

pub returns : goal.returns
returns c = told_bits
