use Rattle.std.proofs.Common.{◌∙◌, sym, ap, arith}
use Rattle.pulse_nets.specs.Pulses.{form_of}
use Rattle.event_graph.specs.Forms.{form_at, form_in}
use Rattle.turn_plans.proofs.Pushed.{push_at, count_push}
use Rattle.turn_plans.proofs.NodesRead.{shapes_read}
use Rattle.turn_plans.proofs.shapes.shapes_of.Goals as goal

pub loop-node-preserved : goal.loop-node-preserved
loop-node-preserved c = record {
  count = count_push _ _ _ _ c.in_ok-push.ensures.items c.loop-node.invariant.count;
  forms = push_at form_of (form_at c.args.graph.now) _ c.loop-node.shapes.items _ c.loop-node.node c.shape_of.result c.in_ok-push.ensures.items c.loop-node.invariant.count c.loop-node.invariant.forms (c.shape_of.ensures ∙ ap form_in (sym c.node.ensures));
}

pub returns : goal.returns
returns c = shapes_read c.args.graph.now c.loop-node.shapes.items c.loop-node.node c.loop-node.invariant.count (let same = c.count-node-end.ensures.count in let done = c.loop-node-test.false in let within = c.loop-node.auto.node-end in omega arith) c.loop-node.invariant.forms
