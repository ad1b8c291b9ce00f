-- Where the token is neither the keyword of an act nor `{`, the act is an expression.
use Rattle.std.proofs.Common.{subst}
use Rattle.thread_frames.specs.SeenFrames.{stack_of}
use Rattle.parse_threads.specs.SeenThread.{IsNext}
use Rattle.parse_threads.proofs.Openings.{expression_begins}
use Rattle.parse_threads.proofs.begin.begin_step.Goals as goal

pub returns-in-None-2 : goal.returns-in-None-2
returns-in-None-2 c =
    subst (λ step. IsNext (stack_of c.args.stack.now) c.args.token.now step c.evaluates.result)
    (expression_begins (stack_of c.args.stack.now) c.args.token.now c.args.token.now.kind c.in-None-2.ensures c.if-is_mark.ensures)
    (c.evaluates.ensures (stack_of c.args.stack.now))
