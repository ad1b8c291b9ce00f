use Rattle.std.proofs.Common.{◌≡◌, ℕ, length, take, slice_get, Some}
use Rattle.machine_parts.specs.declared.plan.TurnPlan.{TurnPlan}
use Rattle.machine_parts.specs.declared.frame.ThreadStates.{ThreadStates}
use Rattle.machine_parts.specs.Frames.{AreStates}
use Rattle.module_frame.specs.Slots.{threads_slots}
use Rattle.module_frame.specs.Drafts.{Grown}
use Rattle.module_frame.proofs.frame.add_threads.Given as goal

abbrev pub invariant-loop-plan : goal.invariant-loop-plan
invariant-loop-plan l = record {
  grown : Grown l.fn.draft l.draft (threads_slots 0 (take l.plan-index l.plans));
  count : length l.threads.items ≡ l.plan-index;
  states : (thread : ℕ) (plan : TurnPlan) (states : ThreadStates) → slice_get l.plans thread ≡ Some plan → slice_get l.threads.items thread ≡ Some states
      → AreStates l.draft.frame thread plan states;
}
