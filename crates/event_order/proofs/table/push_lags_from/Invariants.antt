-- The lags to the events so far stand in the table.
use Rattle.std.proofs.Common.{◌≡◌, ◌+◌, ◌*◌, length, vec_capacity}
use Rattle.event_order.specs.Stored.{IsFilled}
use Rattle.event_order.proofs.table.push_lags_from.Given as goal

abbrev pub invariant-loop-a : goal.invariant-loop-a
invariant-loop-a l = (length l.table.items ≡ l.b * l.b + l.b + l.a) × IsFilled l.graph l.table.items × (vec_capacity l.table ≡ vec_capacity l.fn.table)
