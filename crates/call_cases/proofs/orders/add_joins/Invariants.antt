-- The end so far is a node, and each block adds two cycles.
use Rattle.std.proofs.Common.{◌<◌, ◌≤◌, ◌+◌, ◌*◌, length}
use Rattle.event_graph.specs.Forms.{delays}
use Rattle.call_cases.proofs.orders.add_joins.Given as goal

abbrev pub invariant-loop-block : goal.invariant-loop-block
invariant-loop-block l = (l.end < length l.builder) × (delays l.builder ≤ delays l.fn.builder + 2 * l._block)
