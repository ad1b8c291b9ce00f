-- The walk of a thread, then its tail, then what it takes.
use Rattle.std.proofs.Common.{refl}
use Rattle.anvil_tree.specs.View.{term_of}
use Rattle.expr_check.specs.declared.made.Made.{Nothing}
use Rattle.expr_check.specs.Known.{scope_of, scope_with}
use Rattle.term_check.specs.Taken.{taken_of}
use Rattle.width_check.proofs.ThreadSteps.{body_of, thread_read, walk_fails, tail_fails}
use Rattle.width_check.proofs.threads.read_thread.Goals as goal

pub new-requires : goal.new-requires
unfolding scope_of
new-requires c =
    body_of (scope_with c.args.known.now Nothing) (taken_of c.args.taken.now) (term_of c.args.thread.now) c.in-Ok.read.term c.in-Ok.read.width c.in-Ok.read.next refl
    c.in-Ok.ensures c.in-Ok-check_tail.ensures c.requires.few c.requires.in_order

pub returns-in-Err : goal.returns-in-Err
unfolding scope_of
returns-in-Err c = walk_fails (scope_with c.args.known.now Nothing) (taken_of c.args.taken.now) (term_of c.args.thread.now) c.in-Err.fault c.in-Err.ensures

pub returns-in-Err-check_tail : goal.returns-in-Err-check_tail
unfolding scope_of
returns-in-Err-check_tail c =
    tail_fails (scope_with c.args.known.now Nothing) (taken_of c.args.taken.now) (term_of c.args.thread.now) c.in-Ok.read.term c.in-Ok.read.width c.in-Ok.read.next
    c.in-Err-check_tail.fault c.in-Ok.ensures c.in-Err-check_tail.ensures

pub returns-in-Ok-take_term : goal.returns-in-Ok-take_term
unfolding scope_of
returns-in-Ok-take_term c =
    rw c.in-Ok-new.ensures
    (thread_read (scope_with c.args.known.now Nothing) (taken_of c.args.taken.now) (taken_of c.take_term.new.taken) (term_of c.args.thread.now) c.in-Ok.read.term
    c.in-Ok.read.width c.in-Ok.read.next c.in-Ok.ensures c.in-Ok-check_tail.ensures c.in-Ok-take_term.ensures)
