-- One thread more, and one that fails.
use Rattle.std.proofs.Common.{◌+◌, drop, map, refl}
use Rattle.anvil_tree.specs.View.{term_of}
use Rattle.expr_check.specs.declared.made.Made.{Nothing}
use Rattle.expr_check.specs.Known.{scope_with}
use Rattle.term_check.specs.Taken.{taken_of}
use Rattle.width_check.proofs.ThreadSteps.{begins, past, one_fails, next, ends}
use Rattle.width_check.proofs.threads.read_threads.Goals as goal

pub loop-thread-init : goal.loop-thread-init
loop-thread-init c =
    rw c.new-read.ensures.items
    (begins (scope_with c.args.known.now Nothing) (map term_of c.args.threads.now) _ (rw (c.new.ensures.empty, c.new-2.ensures.empty) refl) c.requires.few c.requires.in_order)

pub read_thread-requires-clause-few : goal.read_thread-requires-clause-few
read_thread-requires-clause-few c =
    (next (scope_with c.args.known.now Nothing) (taken_of c.loop-thread.taken) c.loop-thread.read.items c.args.threads.now c.loop-thread.thread-index c.thread-item.result
    c.loop-thread-test.true c.thread-item.is c.loop-thread.invariant).few.0

pub read_thread-requires-clause-in_order : goal.read_thread-requires-clause-in_order
read_thread-requires-clause-in_order c =
    (next (scope_with c.args.known.now Nothing) (taken_of c.loop-thread.taken) c.loop-thread.read.items c.args.threads.now c.loop-thread.thread-index c.thread-item.result
    c.loop-thread-test.true c.thread-item.is c.loop-thread.invariant).in_order.0

pub returns-in-Err : goal.returns-in-Err
returns-in-Err c =
    one_fails (scope_with c.args.known.now Nothing) (map term_of c.args.threads.now) (taken_of c.loop-thread.taken) c.loop-thread.read.items (term_of c.thread-item.result)
    (drop (c.loop-thread.thread-index + 1) (map term_of c.args.threads.now)) c.in-Err.fault
    (next (scope_with c.args.known.now Nothing) (taken_of c.loop-thread.taken) c.loop-thread.read.items c.args.threads.now c.loop-thread.thread-index c.thread-item.result
    c.loop-thread-test.true c.thread-item.is c.loop-thread.invariant) c.in-Err.ensures

pub loop-thread-preserved : goal.loop-thread-preserved
loop-thread-preserved c =
    rw c.in-Ok-push.ensures
    (past (scope_with c.args.known.now Nothing) (map term_of c.args.threads.now) (taken_of c.loop-thread.taken) (taken_of c.read_thread.new.taken) c.loop-thread.read.items
    (term_of c.thread-item.result) c.in-Ok.body (drop (c.loop-thread.thread-index + 1) (map term_of c.args.threads.now))
    (next (scope_with c.args.known.now Nothing) (taken_of c.loop-thread.taken) c.loop-thread.read.items c.args.threads.now c.loop-thread.thread-index c.thread-item.result
    c.loop-thread-test.true c.thread-item.is c.loop-thread.invariant) c.in-Ok.ensures)

pub returns : goal.returns
returns c =
    ends (scope_with c.args.known.now Nothing) (taken_of c.loop-thread.taken) c.loop-thread.read.items c.args.threads.now c.loop-thread.thread-index c.loop-thread-test.false
    c.loop-thread.invariant
