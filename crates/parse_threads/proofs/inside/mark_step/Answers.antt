-- Where the token is the mark that is wanted, it leads where that leads.
use Rattle.thread_frames.specs.SeenFrames.{stack_of}
use Rattle.parse_threads.proofs.Wanted.{mark_leads}
use Rattle.parse_threads.proofs.inside.mark_step.Goals as goal

pub returns-then-is_mark : goal.returns-then-is_mark
returns-then-is_mark c =
    mark_leads (stack_of c.args.stack.now) (stack_of c.marked.new.stack) c.args.wanted c.args.token.now c.marked.result
    (rw c.mark_of.ensures at c.if-is_mark.ensures) c.marked.ensures
