-- What the pulses of a machine mean: they are the occurrences of nodes in the turns of a timeline.
--
-- A contract cannot speak of every relation, so here a timeline is given by functions: when each turn begins, and
-- when each node occurs in it. The lemmas behind these laws hold of relations.
use Rattle.std.specs.Prelude.{ℕ, ◌≡◌, ◌<◌, ◌≤◌, ◌↔◌, ◌||◌, true, false, Option, Some}
use Rattle.order_rules.specs.Form.{After, Sync}
use Rattle.turn_pulses.specs.TurnGraph.{TurnGraph, IsTurnGraph}
use Rattle.turn_pulses.specs.PulseMachine.{Seen, PulseMachine, IsPulseMachine}
use Rattle.turn_pulses.specs.Timeline.{IsTimeline}

abbrev pub BeginsAt : (ℕ → Option ℕ) → (turn cycle : ℕ) → Type 0
BeginsAt begins turn cycle = begins turn ≡ Some cycle

abbrev pub OccursAt : (ℕ → ℕ → Option ℕ) → (turn node cycle : ℕ) → Type 0
OccursAt when turn node cycle = when turn node ≡ Some cycle

-- a graph, what comes to it, the times of its turns, and a machine of it
pub record Run (graph : TurnGraph) (seen : Seen) (count : ℕ)
    (begins : ℕ → Option ℕ) (when : ℕ → ℕ → Option ℕ) (machine : PulseMachine) : Type 0 where
  pub timeline : IsTimeline graph seen count (BeginsAt begins) (OccursAt when)
  pub graph_is : IsTurnGraph graph
  pub machine_is : IsPulseMachine graph seen machine

-- In each cycle of the list a live node has a pulse exactly where it occurs in some turn.
abbrev pub PulsesAreOccurrences : Type 0
PulsesAreOccurrences =
    (graph : TurnGraph) (seen : Seen) (count : ℕ) (begins : ℕ → Option ℕ) (when : ℕ → ℕ → Option ℕ)
    → (machine : PulseMachine) → Run graph seen count begins when machine
    → (cycle node : ℕ) → graph.live node ≡ true → cycle < count
    → (machine.pulse cycle node ≡ true) ↔ ((turn : ℕ) × (when turn node ≡ Some cycle))

-- An act that waits for a partner is offered, by the pulse of its begin or by its bit, exactly where its begin has
-- occurred and its wire has not been 1 since.
abbrev pub OffersArePending : Type 0
OffersArePending =
    (graph : TurnGraph) (seen : Seen) (count : ℕ) (begins : ℕ → Option ℕ) (when : ℕ → ℕ → Option ℕ)
    → (machine : PulseMachine) → Run graph seen count begins when machine
    → (cycle node from : ℕ) → graph.live node ≡ true → cycle < count → graph.form node ≡ Sync from
    → ((machine.pulse cycle from || machine.bit cycle node) ≡ true)
    ↔ ((turn start : ℕ) × (start ≤ cycle) × (when turn from ≡ Some start)
    × ((between : ℕ) → start ≤ between → between < cycle → seen.wire node between ≡ false))

-- A counter never exceeds its delay, so as many bits as the delay has binary digits are enough for it.
abbrev pub CountersFit : Type 0
CountersFit =
    (graph : TurnGraph) (seen : Seen) (machine : PulseMachine) → IsPulseMachine graph seen machine
    → (cycle node delay from : ℕ) → graph.live node ≡ true → graph.form node ≡ After delay from
    → machine.counter cycle node ≤ delay
