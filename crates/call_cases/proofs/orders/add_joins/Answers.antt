-- A block is three nodes, of which two take a cycle.
use Rattle.std.proofs.Common.{arith}
use Rattle.call_cases.proofs.Delays.{three_more}
use Rattle.call_cases.proofs.orders.add_joins.Goals as goal

pub loop-block-preserved : goal.loop-block-preserved
loop-block-preserved c =
    let block = three_more _ _ _ _ _ _ _ _ c.in_ok-first.ensures.added c.in_ok-second.ensures.added c.in_ok-end.ensures.added c.in_ok-end.ensures.number in
    let before = c.loop-block.invariant.1 in
    let delays_are = block.1 in
    (block.0, omega arith)
