use Rattle.std.proofs.Common.{◌≡◌, length}
use Rattle.fsm_builder.specs.Drafts.{PlansAre}
use Rattle.fsm_builder.proofs.threads.plan_threads.Given as goal

abbrev pub invariant-loop-thread : goal.invariant-loop-thread
invariant-loop-thread l = record {
  count : length l.plans.items ≡ l.thread-index;
  plans : PlansAre l.threads l.plans.items;
}
