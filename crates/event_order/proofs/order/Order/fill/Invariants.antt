-- The rows of the events so far stand in the table, and there is room for all.
use Rattle.std.proofs.Common.{◌≡◌, ◌*◌, length, vec_capacity}
use Rattle.event_order.specs.Stored.{IsFilled}
use Rattle.event_order.proofs.order.Order.fill.Given as goal

abbrev pub invariant-loop-event : goal.invariant-loop-event
invariant-loop-event l = (length l.entries.items ≡ l.event * l.event) × IsFilled l.graph l.entries.items × (vec_capacity l.entries ≡ l.count * l.count)
