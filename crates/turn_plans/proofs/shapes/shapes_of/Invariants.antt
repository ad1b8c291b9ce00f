-- The shapes of the nodes so far.
use Rattle.std.proofs.Common.{◌≡◌, ◌<◌, ℕ, length}
use Rattle.event_graph.specs.Forms.{form_at}
use Rattle.pulse_nets.specs.Pulses.{form_of}
use Rattle.turn_plans.specs.Read.{shape_at}
use Rattle.turn_plans.proofs.shapes.shapes_of.Given as goal

abbrev pub invariant-loop-node : goal.invariant-loop-node
invariant-loop-node l = record {
  count : length l.shapes.items ≡ l.node;
  forms : (node : ℕ) → node < l.node → form_of (shape_at l.shapes.items node) ≡ form_at l.graph node;
}
