use Rattle.std.proofs.Common.{◌≡◌, sym, ◌∙◌, ap, arith}
use Rattle.std.specs.Prelude.{Some, slice_get}
use Rattle.std.proofs.lemmas.Option.{slice_get-get_or}
use Rattle.fsm_builder.proofs.Drafting.{plans_more}
use Rattle.fsm_builder.proofs.threads.plan_threads.Goals as goal

pub loop-thread-preserved : goal.loop-thread-preserved
loop-thread-preserved c =
    let k = c.loop-thread.thread-index in
    let body : slice_get c.args.threads.now k ≡ Some c.thread-item.result = slice_get-get_or c.args.threads.now k c.thread-item.result c.loop-thread-test.true ∙ ap Some (sym c.thread-item.is) in
    record {
      count = omega (arith, c.in_ok-push.ensures.len, c.loop-thread.invariant.count);
      plans = plans_more c.args.threads.now c.loop-thread.plans.items c.push.new.self.items k c.thread-item.result c.in_ok-plan_turn.field-0 c.loop-thread.invariant.count body
          c.in_ok-plan_turn.ensures c.in_ok-push.ensures.items c.loop-thread.invariant.plans;
    }
