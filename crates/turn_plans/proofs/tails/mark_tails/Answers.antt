use Rattle.std.proofs.Common.{arith, ◌-◌, ap, set, true}
use Rattle.turn_plans.proofs.Marked.{marked_start, marked_down, marked_all}
use Rattle.turn_plans.proofs.tails.mark_tails.Goals as goal

pub loop-node-init : goal.loop-node-init
loop-node-init c = marked_start c.args.shapes.now c.args.last _ c.requires.last (ap (λ tails. set tails c.args.last true) c.requires.none)

pub loop-node-preserved-then-tails-node : goal.loop-node-preserved-then-tails-node
loop-node-preserved-then-tails-node c =
    marked_down c.args.shapes.now c.args.last c.requires.earlier (c.loop-node.node - 1) c.loop-node.node c.loop-node.tails _ (let above = c.loop-node-test.true in omega arith) c.if-tails-node.true
    c.mark_predecessors.ensures c.loop-node.invariant

pub returns : goal.returns
returns c = marked_all c.args.shapes.now c.args.last c.loop-node.node c.loop-node.tails (let done = c.loop-node-test.false in omega arith) c.loop-node.invariant
