-- The sides of the nodes so far.
use Rattle.std.proofs.Common.{◌≡◌, ◌<◌, ℕ, length, slice_get}
use Rattle.turn_plans.specs.Read.{event_at, side_in}
use Rattle.turn_plans.proofs.shapes.sides_of.Given as goal

abbrev pub invariant-loop-node : goal.invariant-loop-node
invariant-loop-node l = record {
  count : length l.events.items ≡ l.node;
  sides : (node : ℕ) → node < l.node → event_at l.events.items node ≡ side_in (slice_get l.graph node);
}
