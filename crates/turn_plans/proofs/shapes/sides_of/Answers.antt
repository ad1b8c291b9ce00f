use Rattle.std.proofs.Common.{arith}
use Rattle.turn_plans.proofs.NodesRead.{sides_read}
use Rattle.turn_plans.proofs.shapes.sides_of.Goals as goal

pub returns : goal.returns
returns c = sides_read c.args.graph.now c.loop-node.events.items c.loop-node.node c.loop-node.invariant.count (let same = c.count-node-end.ensures.count in let done = c.loop-node-test.false in let within = c.loop-node.auto.node-end in omega arith) c.loop-node.invariant.sides
