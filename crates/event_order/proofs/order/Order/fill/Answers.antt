-- The row of an event ends below the square of the count.
use Rattle.std.proofs.Common.{arith}
use Rattle.event_order.proofs.Places.{square_next}
use Rattle.event_order.proofs.order.Order.fill.Goals as goal

pub push_row-requires-clause-room : goal.push_row-requires-clause-room
push_row-requires-clause-room c =
    let next = square_next c.loop-event.event c.count-count.result c.loop-event-test.true in
    let room = c.loop-event.invariant.2 in
    omega arith
