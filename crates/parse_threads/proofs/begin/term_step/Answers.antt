-- Where the token is no `let`, the term begins with an act.
use Rattle.std.proofs.Common.{sym, subst}
use Rattle.thread_frames.specs.SeenFrames.{stack_of}
use Rattle.parse_threads.specs.SeenThread.{IsNext}
use Rattle.parse_threads.proofs.Openings.{term_begins}
use Rattle.parse_threads.proofs.begin.term_step.Goals as goal

pub returns : goal.returns
returns c =
    subst (λ step. IsNext (stack_of c.begin_step.new.stack) c.args.token.now step c.begin_step.result)
    (sym (term_begins (stack_of c.args.stack.now) c.args.token.now c.args.token.now.kind c.if-is_key.ensures))
    c.begin_step.ensures
