-- How a point in time comes from others. A point is a begin or an end of a part of a thread, or a node of a graph.
use Rattle.std.specs.Prelude.{ℕ}

-- Start: it comes first. Same: with another. After: so many cycles after another. Sync: at a cycle that a partner
-- decides, not before another. Join: at the later of two. Side: with another, where the `if` decides for this side.
-- Merge: at the one of two that comes, which stand on the two sides of an `if`
pub data Form (P : Type 0) : Type 0 where
  Start : Form P
  Same : P → Form P
  After : ℕ → P → Form P
  Sync : P → Form P
  Join : P → P → Form P
  Side : P → Form P
  Merge : P → P → Form P
