use Rattle.std.proofs.Common.{◌≡◌, ◌+◌, ◌≤◌, ◌∷◌, [], ◌∙◌, arith, refl, ap, subst, length, take, length-append}
use Rattle.machine_parts.specs.Frames.{AreStates}
use Rattle.module_frame.specs.Drafts.{Grown}
use Rattle.module_frame.specs.Slots.{thread_slots, threads_slots}
use Rattle.module_frame.proofs.Growing.{grown_on}
use Rattle.module_frame.proofs.GrowingThreads.{get_inside, some_room, threads_room, threads_more, threads_held}
use Rattle.module_frame.proofs.frame.add_threads.Goals as goal

pub add_thread-requires : goal.add_thread-requires
add_thread-requires c =
    let index = c.loop-plan.plan-index in
    let plans = c.args.plans.now in
    let is = get_inside plans index c.plan-item.result c.loop-plan-test.true c.plan-item.is in
    record {
      room = threads_room c.args.draft.now c.loop-plan.draft index plans c.plan-item.result c.requires.few c.loop-plan-test.true is c.requires.room c.loop-plan.invariant.grown;
    }

pub loop-plan-preserved : goal.loop-plan-preserved
loop-plan-preserved c =
    let index = c.loop-plan.plan-index in
    let plans = c.args.plans.now in
    let plan = c.plan-item.result in
    let states = c.in_ok-add_thread.field-0 in
    let is = get_inside plans index plan c.loop-plan-test.true c.plan-item.is in
    let length_is = c.len-thread.ensures in
    let count = c.loop-plan.invariant.count in
    let at : c.len-thread.result ≡ index = omega (arith, length_is, count) in
    let pushed = c.in_ok-push.ensures.items in
    let longer = ap length pushed ∙ length-append c.loop-plan.threads.items (states ∷ []) in
    let grown : Grown c.loop-plan.draft c.add_thread.new.draft (thread_slots index plan) =
    subst (λ n. Grown c.loop-plan.draft c.add_thread.new.draft (thread_slots n plan)) at c.in_ok-add_thread.ensures.grown in
    let held : AreStates c.add_thread.new.draft.frame index plan states =
    subst (λ n. AreStates c.add_thread.new.draft.frame n plan states) at c.in_ok-add_thread.ensures.states in
    let room = threads_room c.args.draft.now c.loop-plan.draft index plans plan c.requires.few c.loop-plan-test.true is c.requires.room c.loop-plan.invariant.grown in
    record {
      grown =
          grown_on c.args.draft.now c.loop-plan.draft c.add_thread.new.draft (threads_slots 0 (take index plans)) (thread_slots index plan) _
          (threads_more plans index (index + 1) plan refl is) c.loop-plan.invariant.grown grown;
      count = omega (arith, longer, count);
      states =
          threads_held c.loop-plan.draft c.add_thread.new.draft (thread_slots index plan) _ index plans plan c.loop-plan.threads.items c.push.new.self.items states
          room grown is count pushed c.loop-plan.invariant.states held;
    }

pub returns-clause-room : goal.returns-clause-room
returns-clause-room c =
    let plans = c.args.plans.now in
    let within : c.loop-plan.plan-index ≤ length plans = c.loop-plan.auto.plan-index-end in
    some_room c.args.draft.now c.loop-plan.draft c.loop-plan.plan-index plans c.requires.few within c.requires.room c.loop-plan.invariant.grown
