use Rattle.std.proofs.Common.{◌≡◌, ◌<◌, length, sym, ◌∙◌, ap, arith}
use Rattle.std.specs.Prelude.{Some, slice_get}
use Rattle.std.proofs.lemmas.Option.{slice_get-get_or}
use Rattle.module_nets.proofs.Growing.{extends_on}
use Rattle.fsm_builder.proofs.Drafting.{drafts_more, ready_later}
use Rattle.fsm_builder.proofs.threads.draw_threads.Goals as goal

pub draw_draft-requires : goal.draw_draft-requires
draw_draft-requires c =
    let k = c.loop-number.number in
    let inside : k < length c.args.threads.now = c.loop-number-test.true in
    let in_plans : k < length c.args.plans.now = omega (arith, inside, c.requires.plan_count) in
    let in_states : k < length c.args.states.now = omega (arith, inside, c.requires.state_count) in
    let body : slice_get c.args.threads.now k ≡ Some c.index-threads-number.result = slice_get-get_or c.args.threads.now k c.index-threads-number.result inside ∙ ap Some (sym c.index-threads-number.is) in
    let plan : slice_get c.args.plans.now k ≡ Some c.index-plans-number.result = slice_get-get_or c.args.plans.now k c.index-plans-number.result in_plans ∙ ap Some (sym c.index-plans-number.is) in
    let states : slice_get c.args.states.now k ≡ Some c.index-states-number.result = slice_get-get_or c.args.states.now k c.index-states-number.result in_states ∙ ap Some (sym c.index-states-number.is) in
    ready_later c.args.netlist.now c.loop-number.netlist c.loop-number.invariant.extends c.args.sources.now.registers.now c.args.sources.now.words.now c.args.sources.now.wires.now
    c.index-plans-number.result c.index-states-number.result c.index-threads-number.result c.args.ports
    (c.requires.ready k c.index-threads-number.result c.index-plans-number.result c.index-states-number.result body plan states)

pub loop-number-preserved : goal.loop-number-preserved
loop-number-preserved c =
    let k = c.loop-number.number in
    let inside : k < length c.args.threads.now = c.loop-number-test.true in
    let in_plans : k < length c.args.plans.now = omega (arith, inside, c.requires.plan_count) in
    let in_states : k < length c.args.states.now = omega (arith, inside, c.requires.state_count) in
    let body : slice_get c.args.threads.now k ≡ Some c.index-threads-number.result = slice_get-get_or c.args.threads.now k c.index-threads-number.result inside ∙ ap Some (sym c.index-threads-number.is) in
    let plan : slice_get c.args.plans.now k ≡ Some c.index-plans-number.result = slice_get-get_or c.args.plans.now k c.index-plans-number.result in_plans ∙ ap Some (sym c.index-plans-number.is) in
    let states : slice_get c.args.states.now k ≡ Some c.index-states-number.result = slice_get-get_or c.args.states.now k c.index-states-number.result in_states ∙ ap Some (sym c.index-states-number.is) in
    record {
      extends = extends_on _ _ _ c.loop-number.invariant.extends c.in_ok-draft.ensures.extends;
      count = omega (arith, c.in_ok-push.ensures.len, c.loop-number.invariant.count);
      drawn = drafts_more c.loop-number.netlist c.draw_draft.new.netlist c.in_ok-draft.ensures.extends c.args.sources.now c.args.threads.now c.args.plans.now c.args.states.now
          c.loop-number.drafts.items c.push.new.self.items k c.index-threads-number.result c.in_ok-draft.draft c.loop-number.invariant.count body
          record {
            plan = plan ∙ ap Some (sym c.in_ok-draft.ensures.plan);
            states_are = states ∙ ap Some (sym c.in_ok-draft.ensures.states);
            is = c.in_ok-draft.ensures.drawn;
          }
          c.in_ok-push.ensures.items c.loop-number.invariant.drawn;
    }
