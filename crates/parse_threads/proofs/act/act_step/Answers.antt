-- The act goes on by its bound variable and the frames below that.
use Rattle.std.proofs.Common.{subst}
use Rattle.anvil_tree.specs.View.{act_of}
use Rattle.thread_frames.specs.SeenFrames.{stack_of}
use Rattle.parse_threads.specs.SeenThread.{IsNext}
use Rattle.parse_threads.proofs.Joining.{act_joined}
use Rattle.parse_threads.proofs.act.act_step.Goals as goal

pub returns : goal.returns
returns c =
    subst (λ step. IsNext (stack_of c.joined_step.new.stack) c.args.token.now step c.joined_step.result)
    (act_joined (stack_of c.args.stack.now) c.pop_bound-bound.result (stack_of c.pop_bound-bound.new.self) (act_of c.args.act) c.args.token.now.kind
    c.pop_bound-bound.ensures.found c.pop_bound-bound.ensures.below)
    c.joined_step.ensures
