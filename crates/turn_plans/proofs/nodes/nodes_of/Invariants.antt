-- The nodes so far.
use Rattle.std.proofs.Common.{◌≡◌, ◌<◌, ℕ, length}
use Rattle.machine_parts.specs.Parts.{plan_at}
use Rattle.turn_plans.specs.Read.{shape_at, tail_at, event_at}
use Rattle.turn_plans.proofs.nodes.nodes_of.Given as goal

abbrev pub invariant-loop-node : goal.invariant-loop-node
invariant-loop-node l = record {
  count : length l.nodes.items ≡ l.node;
  at : (node : ℕ) → node < l.node
      → plan_at l.nodes.items node
      ≡ record { shape = shape_at l.shapes node; tail = tail_at l.tails node; event = event_at l.events node };
}
