-- A machine of pulses follows the turns of a body.
use Rattle.std.specs.Prelude.{ℕ, ◌≡◌, ◌<◌, ◌↔◌, Bool, true, []}
use Rattle.core_term.specs.Inputs.{Inputs}
use Rattle.core_term.specs.Term.{Term}
use Rattle.core_term.specs.Numbering.{Numbered}
use Rattle.core_term.specs.Ends.{Sees}
use Rattle.core_term.specs.Tail.{IsTail}
use Rattle.core_term.specs.Points.{Spot}
use Rattle.core_term.specs.Occurs.{At}
use Rattle.run_laws.specs.TurnLaws.{times}
use Rattle.core_term.specs.Reread.{deciding}
use Rattle.turn_pulses.specs.TurnGraph.{TurnGraph, IsTurnGraph}
use Rattle.turn_pulses.specs.PulseMachine.{Seen, PulseMachine, IsPulseMachine}
use Rattle.turn_machine.specs.Draws.{Draws}

-- the point comes in this cycle, in some turn
abbrev pub ComesIn : Inputs → Sees → Term → Spot → (cycle : ℕ) → Type 0
ComesIn inputs view body point cycle = (turn : ℕ) × (times inputs view body turn point ≡ At cycle)

-- In each cycle of the list the pulse of a node is the coming of its point, whatever comes in and whatever the
-- registers and decisions are.
abbrev pub PulsesFollowTurns : Type 0
PulsesFollowTurns =
    (inputs : Inputs) (registers : ℕ → ℕ → ℕ) (decision : ℕ → ℕ → Bool) (body : Term)
    → Numbered [] 0 body → IsTail body
    → (graph : TurnGraph) (seen : Seen) (point : ℕ → Spot)
    → Draws inputs (deciding registers decision) decision body graph seen point → IsTurnGraph graph
    → (machine : PulseMachine) → IsPulseMachine graph seen machine
    → (cycle node : ℕ) → graph.live node ≡ true → cycle < inputs.count
    → (machine.pulse cycle node ≡ true) ↔ ComesIn inputs (deciding registers decision) body (point node) cycle
