-- The threads before keep their demands, and this one too or it has the first violation.
use Rattle.std.proofs.Common.{◌<◌, ◌≤◌, arith, subst, length, Option}
use Rattle.core_term.specs.declared.rules.Violation.{Violation}
use Rattle.core_term.specs.AcceptedFile.{process_in}
use Rattle.demand_checks.specs.Thread.{body_of}
use Rattle.timing_check.specs.OfThread.{IsFirstOfThread}
use Rattle.timing_check.proofs.Processes.{next_thread, all_threads, found_thread}
use Rattle.timing_check.proofs.files.first_of_process.Goals as goal

pub returns-in-Some : goal.returns-in-Some
returns-in-Some c =
    let proc = c.args.proc.now in
    let thread = c.loop-thread.thread in
    let First : Option Violation → Type 0 = λ first. IsFirstOfThread (process_in proc) thread (body_of proc thread) first in
    let count = c.thread_count-thread-end.ensures in
    let test = c.loop-thread-test.true in
    let inside : thread < length proc.threads.items = omega arith in
    found_thread proc thread c.in-Some.violation inside (subst First c.in-Some.is c.in_ok-violation.ensures) c.loop-thread.invariant

pub loop-thread-preserved : goal.loop-thread-preserved
loop-thread-preserved c =
    let proc = c.args.proc.now in
    let thread = c.loop-thread.thread in
    let First : Option Violation → Type 0 = λ first. IsFirstOfThread (process_in proc) thread (body_of proc thread) first in
    next_thread proc thread c.loop-thread.invariant (subst First c.in_default.is c.in_ok-violation.ensures)

pub returns : goal.returns
returns c =
    let proc = c.args.proc.now in
    let count = c.thread_count-thread-end.ensures in
    let done = c.loop-thread-test.false in
    let past : length proc.threads.items ≤ c.loop-thread.thread = omega arith in
    all_threads proc c.loop-thread.thread past c.loop-thread.invariant
