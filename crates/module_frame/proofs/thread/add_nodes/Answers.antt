use Rattle.std.proofs.Common.{◌≡◌, ◌+◌, ◌<◌, ◌∷◌, [], ◌∙◌, arith, refl, ap, subst, length, take, length-append}
use Rattle.machine_parts.specs.Parts.{form_in}
use Rattle.module_frame.specs.Drafts.{Grown, NodeHeld}
use Rattle.module_frame.specs.Slots.{node_slots, node_slot}
use Rattle.module_frame.proofs.Growing.{grown_on, nodes_more, nodes_room, nodes_held}
use Rattle.module_frame.proofs.thread.add_nodes.Goals as goal

pub add_node-requires : goal.add_node-requires
add_node-requires c = record {
  room = nodes_room c.args.draft.now c.loop-plan.draft c.args.thread c.loop-plan.plan-index c.args.nodes.now c.loop-plan-test.true c.requires.room c.loop-plan.invariant.grown;
}

pub loop-plan-preserved : goal.loop-plan-preserved
loop-plan-preserved c =
    let index = c.loop-plan.plan-index in
    let plans = c.args.nodes.now in
    let inside : index < length plans = c.loop-plan-test.true in
    let length_is = c.len-node.ensures in
    let count = c.loop-plan.invariant.count in
    let at : c.len-node.result ≡ index = omega (arith, length_is, count) in
    let pushed = c.in_ok-push.ensures.items in
    let longer = ap length pushed ∙ length-append c.loop-plan.states.items (c.in_ok-operand.field-0 ∷ []) in
    let grown : Grown c.loop-plan.draft c.add_node.new.self (node_slot c.args.thread index (form_in plans index)) =
    subst (λ n. Grown c.loop-plan.draft c.add_node.new.self (node_slot c.args.thread n (form_in plans index))) at c.in_ok-operand.ensures.grown in
    let held : NodeHeld c.add_node.new.self.frame c.args.thread index (form_in plans index) c.in_ok-operand.field-0 =
    subst (λ n. NodeHeld c.add_node.new.self.frame c.args.thread n (form_in plans index) c.in_ok-operand.field-0) at c.in_ok-operand.ensures.held in
    let room = nodes_room c.args.draft.now c.loop-plan.draft c.args.thread index plans inside c.requires.room c.loop-plan.invariant.grown in
    record {
      grown =
          grown_on c.args.draft.now c.loop-plan.draft c.add_node.new.self (node_slots c.args.thread 0 (take index plans)) (node_slot c.args.thread index (form_in plans index)) _
          (nodes_more c.args.thread index (index + 1) plans refl inside) c.loop-plan.invariant.grown grown;
      count = omega (arith, longer, count);
      held =
          nodes_held c.loop-plan.draft c.add_node.new.self (node_slot c.args.thread index (form_in plans index)) 1 c.args.thread index plans
          c.loop-plan.states.items c.push.new.self.items c.in_ok-operand.field-0 room grown count pushed c.loop-plan.invariant.held held;
    }
