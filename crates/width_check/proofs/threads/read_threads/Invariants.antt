-- The threads so far are read, and the checks of those that are left decide.
use Rattle.std.proofs.Common.{drop, map}
use Rattle.anvil_tree.specs.View.{term_of}
use Rattle.expr_check.specs.declared.made.Made.{Nothing}
use Rattle.expr_check.specs.Known.{scope_with}
use Rattle.term_check.specs.Taken.{taken_of}
use Rattle.width_check.proofs.ThreadSteps.{Standing}
use Rattle.width_check.proofs.threads.read_threads.Given as goal

abbrev pub invariant-loop-thread : goal.invariant-loop-thread
invariant-loop-thread l = Standing (scope_with l.known Nothing) (map term_of l.threads) (taken_of l.taken) l.read.items (drop l.thread-index (map term_of l.threads))
