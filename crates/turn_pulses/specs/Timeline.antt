-- When turns begin, and when the nodes of a graph occur in them: what a run shows of a thread, told apart from any
-- text.
--
-- Turns follow one another without a gap. What is asked here holds of the turns of a body in any run.
use Rattle.std.specs.Prelude.{ℕ, ◌≡◌, ◌+◌, ◌<◌, ◌≤◌, ◌⊎◌, ◌↔◌, max, true, false}
use Rattle.order_rules.specs.Form.{Form, Start, Same, After, Sync, Join, Side, Merge}
use Rattle.turn_pulses.specs.TurnGraph.{TurnGraph}
use Rattle.turn_pulses.specs.PulseMachine.{Seen}

-- `Begins turn cycle`: the turn begins in the cycle. `Occurs turn node cycle`: in that turn the node occurs in the
-- cycle.

-- when a node of each form occurs in a turn, told from its predecessors
abbrev pub OccursAs : Seen → (Begins : ℕ → ℕ → Type 0) → (Occurs : ℕ → ℕ → ℕ → Type 0)
    → (turn node cycle : ℕ) → Form ℕ → Type 0
OccursAs seen Begins Occurs turn node cycle Start = Begins turn cycle
OccursAs seen Begins Occurs turn node cycle (Same from) = Occurs turn from cycle
OccursAs seen Begins Occurs turn node cycle (After delay from) =
    (start : ℕ) × (start + delay ≡ cycle) × Occurs turn from start
OccursAs seen Begins Occurs turn node cycle (Sync from) =
    (start : ℕ) × (start ≤ cycle) × Occurs turn from start
    × (seen.wire node cycle ≡ true)
    × ((between : ℕ) → start ≤ between → between < cycle → seen.wire node between ≡ false)
OccursAs seen Begins Occurs turn node cycle (Side from) = Occurs turn from cycle × (seen.chosen node cycle ≡ true)
OccursAs seen Begins Occurs turn node cycle (Join first second) =
    (one other : ℕ) × (max one other ≡ cycle) × Occurs turn first one × Occurs turn second other
OccursAs seen Begins Occurs turn node cycle (Merge first second) =
    Occurs turn first cycle ⊎ Occurs turn second cycle

-- a delay that begins within the list ends, also past the end of the list
abbrev pub Elapses : (Occurs : ℕ → ℕ → ℕ → Type 0) → (count turn node : ℕ) → Form ℕ → Type 0
Elapses Occurs count turn node (After delay from) =
    (start : ℕ) → start < count → Occurs turn from start → Occurs turn node (start + delay)
Elapses Occurs count turn node form = Unit {0}

-- in a turn that ends, a join that does not forget has both ends or none
abbrev pub HasBothOrNone : TurnGraph → (Occurs : ℕ → ℕ → ℕ → Type 0) → (turn node : ℕ) → Form ℕ → Type 0
HasBothOrNone graph Occurs turn node (Join first second) = graph.forgets node ≡ false
    → ((one : ℕ) → Occurs turn first one → (other : ℕ) × Occurs turn second other)
    × ((other : ℕ) → Occurs turn second other → (one : ℕ) × Occurs turn first one)
HasBothOrNone graph Occurs turn node form = Unit {0}

-- The times of turns and nodes on a list of so many cycles.
pub record IsTimeline (graph : TurnGraph) (seen : Seen) (count : ℕ)
    (Begins : ℕ → ℕ → Type 0) (Occurs : ℕ → ℕ → ℕ → Type 0) : Type 0 where
  -- the first turn begins in cycle 0, each other one where the turn before it ends
  pub first : 0 < count → Begins 0 0
  pub first_only : (cycle : ℕ) → Begins 0 cycle → cycle ≡ 0
  pub next : (turn cycle : ℕ) → cycle < count → Occurs turn graph.last cycle → Begins (turn + 1) cycle
  pub ended : (turn cycle : ℕ) → Begins (turn + 1) cycle → Occurs turn graph.last cycle
  -- a node occurs once in a turn, as its form says
  pub once : (turn node cycle other : ℕ) → Occurs turn node cycle → Occurs turn node other → cycle ≡ other
  pub occurs : (turn node cycle : ℕ) → graph.live node ≡ true → cycle < count
      → Occurs turn node cycle ↔ OccursAs seen Begins Occurs turn node cycle (graph.form node)
  pub elapses : (turn node : ℕ) → graph.live node ≡ true → Elapses Occurs count turn node (graph.form node)
  -- it occurs from the begin of its turn up to the end. One of the tail comes after the begin and may fall on the end,
  -- each other one may fall on the begin and comes before the end
  pub since : (turn node cycle : ℕ) → Occurs turn node cycle → (start : ℕ) × Begins turn start × (start ≤ cycle)
  pub by_end : (turn node cycle end : ℕ) → Occurs turn node cycle → Begins (turn + 1) end → cycle ≤ end
  pub before_end : (turn node cycle end : ℕ) → graph.tail node ≡ false
      → Occurs turn node cycle → Begins (turn + 1) end → cycle < end
  pub tail_since : (turn node cycle start : ℕ) → graph.tail node ≡ true
      → Occurs turn node cycle → Begins turn start → start < cycle
  pub both_or_none : (turn node end : ℕ) → graph.live node ≡ true
      → Begins (turn + 1) end → HasBothOrNone graph Occurs turn node (graph.form node)
