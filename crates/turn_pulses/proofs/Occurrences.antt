-- What the pulse and the registers of a node are to say: the claims that the lemmas on each form go through.
use Rattle.std.proofs.Common.{◌≡◌, ℕ, ◌+◌, ◌-◌, ◌<◌, ◌≤◌, ◌⊎◌, false}
use Rattle.order_rules.specs.Form.{Form, After, Sync, Join}
use Rattle.turn_pulses.specs.TurnGraph.{TurnGraph}
use Rattle.turn_pulses.specs.PulseMachine.{Seen, PulseMachine}
use Rattle.turn_pulses.proofs.Reflects.{Reflects}
use Rattle.turn_pulses.proofs.Windows.{InTurn, lag}

-- the node occurs in the cycle, in some turn
abbrev pub OccursIn : (Occurs : ℕ → ℕ → ℕ → Type 0) → (node cycle : ℕ) → Type 0
OccursIn Occurs node cycle = (turn : ℕ) × Occurs turn node cycle

-- its pulse says so
abbrev pub PulseIsRight : (Occurs : ℕ → ℕ → ℕ → Type 0) → PulseMachine → (cycle node : ℕ) → Type 0
PulseIsRight Occurs machine cycle node = Reflects (OccursIn Occurs node cycle) (machine.pulse cycle node)

-- the begin of an act has occurred before, and its wire has not been 1 since
abbrev pub Pending : Seen → (Occurs : ℕ → ℕ → ℕ → Type 0) → (node from cycle : ℕ) → Type 0
Pending seen Occurs node from cycle =
    (turn start : ℕ) × (start < cycle) × Occurs turn from start × ((between : ℕ) → start ≤ between → between < cycle → seen.wire node between ≡ false)

-- a delay has begun before, of which so many cycles are left and the one to come
abbrev pub CountsDown : (Occurs : ℕ → ℕ → ℕ → Type 0) → (delay from cycle rest : ℕ) → Type 0
CountsDown Occurs delay from cycle rest = (turn start : ℕ) × (start < cycle) × (cycle + rest ≡ start + delay + 1) × Occurs turn from start

-- of two nodes of a turn one alone has occurred before the cycle
abbrev pub CameAlone : (Occurs : ℕ → ℕ → ℕ → Type 0) → (turn came missing cycle : ℕ) → Type 0
CameAlone Occurs turn came missing cycle = ((start : ℕ) × (start < cycle) × Occurs turn came start) × ((earlier : ℕ) → earlier < cycle → Occurs turn missing earlier → ⊥)

abbrev pub OneCame : (Occurs : ℕ → ℕ → ℕ → Type 0) → (turn first second cycle : ℕ) → Type 0
OneCame Occurs turn first second cycle = CameAlone Occurs turn first second cycle ⊎ CameAlone Occurs turn second first cycle

-- and the turn still went on in the cycle before
abbrev pub AwaitsOther : TurnGraph → (Begins : ℕ → ℕ → Type 0) → (Occurs : ℕ → ℕ → ℕ → Type 0) → (first second cycle : ℕ) → Type 0
AwaitsOther graph Begins Occurs first second cycle = (turn : ℕ) × OneCame Occurs turn first second cycle × InTurn Begins (lag (graph.tail first)) turn (cycle - 1)

-- what the registers of a node say before a cycle
abbrev pub RegistersAreRight : TurnGraph → Seen → (Begins : ℕ → ℕ → Type 0) → (Occurs : ℕ → ℕ → ℕ → Type 0) → PulseMachine → (cycle node : ℕ) → Form ℕ → Type 0
RegistersAreRight graph seen Begins Occurs machine cycle node (After delay from) =
    ((rest : ℕ) → 0 < rest → machine.counter cycle node ≡ rest → CountsDown Occurs delay from cycle rest)
    × ((rest : ℕ) → 0 < rest → CountsDown Occurs delay from cycle rest → machine.counter cycle node ≡ rest)
RegistersAreRight graph seen Begins Occurs machine cycle node (Sync from) = Reflects (Pending seen Occurs node from cycle) (machine.bit cycle node)
RegistersAreRight graph seen Begins Occurs machine cycle node (Join first second) = Reflects (AwaitsOther graph Begins Occurs first second cycle) (machine.bit cycle node)
RegistersAreRight graph seen Begins Occurs machine cycle node form = Unit {0}
