-- A machine of pulses over the graph of one turn, as equations on what its nets and registers show in each cycle.
--
-- Each live node has a net that is 1, a pulse, in the cycles in which the node occurs. A delay has a counter, which
-- is loaded when its predecessor has its pulse, and has its own pulse at 1. A wait for a partner has one bit: its act
-- is pending. A join has one bit: exactly one of its two ends has come. One bit says that the machine has started.
use Rattle.std.specs.Prelude.{
  ℕ,
  ◌≡◌,
  ◌+◌,
  ◌-◌,
  ◌==◌,
  ◌&&◌,
  ◌||◌,
  not,
  if◌then◌else◌,
  Bool,
  true,
  false,
}
use Rattle.order_rules.specs.Form.{Form, Start, Same, After, Sync, Join, Side, Merge}
use Rattle.turn_pulses.specs.TurnGraph.{TurnGraph}

-- what the machine sees of its surroundings: the wire that ends a wait, and whether a side is chosen, by node and cycle
pub record Seen : Type 0 where
  pub wire : (node cycle : ℕ) → Bool
  pub chosen : (node cycle : ℕ) → Bool

-- its nets and registers: the pulse, the bit and the counter of each node, and whether it has started
pub record PulseMachine : Type 0 where
  pub pulse : (cycle node : ℕ) → Bool
  pub bit : (cycle node : ℕ) → Bool
  pub counter : (cycle node : ℕ) → ℕ
  pub started : (cycle : ℕ) → Bool

abbrev pub xor : Bool → Bool → Bool
xor left right = if left then not right else right

-- a turn begins in this cycle: the first one, or the one after a turn that ends
abbrev pub turn_begins : TurnGraph → PulseMachine → (cycle : ℕ) → Bool
turn_begins graph machine cycle = not (machine.started cycle) || machine.pulse cycle graph.last

-- exactly one end of a join has come before this cycle, and that was not forgotten
abbrev pub one_has_come : TurnGraph → PulseMachine → (cycle node : ℕ) → Bool
one_has_come graph machine cycle node =
    machine.bit cycle node && not (graph.forgets node && turn_begins graph machine cycle)

-- the pulse of a node of each form
abbrev pub pulse_of : TurnGraph → Seen → PulseMachine → (cycle node : ℕ) → Form ℕ → Bool
pulse_of graph seen machine cycle node Start = turn_begins graph machine cycle
pulse_of graph seen machine cycle node (Same from) = machine.pulse cycle from
pulse_of graph seen machine cycle node (After delay from) = machine.counter cycle node == 1
pulse_of graph seen machine cycle node (Sync from) =
    (machine.pulse cycle from || machine.bit cycle node) && seen.wire node cycle
pulse_of graph seen machine cycle node (Side from) = machine.pulse cycle from && seen.chosen node cycle
pulse_of graph seen machine cycle node (Join first second) =
    (machine.pulse cycle first && machine.pulse cycle second)
    || (one_has_come graph machine cycle node && (machine.pulse cycle first || machine.pulse cycle second))
pulse_of graph seen machine cycle node (Merge first second) = machine.pulse cycle first || machine.pulse cycle second

-- its bit in the next cycle
abbrev pub next_bit : TurnGraph → Seen → PulseMachine → (cycle node : ℕ) → Form ℕ → Bool
next_bit graph seen machine cycle node (Sync from) =
    (machine.pulse cycle from || machine.bit cycle node) && not (seen.wire node cycle)
next_bit graph seen machine cycle node (Join first second) =
    xor (one_has_come graph machine cycle node) (xor (machine.pulse cycle first) (machine.pulse cycle second))
next_bit graph seen machine cycle node form = false

-- its counter in the next cycle
abbrev pub next_counter : PulseMachine → (cycle node : ℕ) → Form ℕ → ℕ
next_counter machine cycle node (After delay from) =
    if machine.pulse cycle from then delay else machine.counter cycle node - 1
next_counter machine cycle node form = 0

-- The equations: what registers show in cycle 0, the pulses of each cycle, and what registers show in the next one.
pub record IsPulseMachine (graph : TurnGraph) (seen : Seen) (machine : PulseMachine) : Type 0 where
  pub unstarted : machine.started 0 ≡ false
  pub starts : (cycle : ℕ) → machine.started (cycle + 1) ≡ true
  pub no_bit : (node : ℕ) → machine.bit 0 node ≡ false
  pub no_count : (node : ℕ) → machine.counter 0 node ≡ 0
  pub pulses : (cycle node : ℕ) → graph.live node ≡ true
      → machine.pulse cycle node ≡ pulse_of graph seen machine cycle node (graph.form node)
  pub bits : (cycle node : ℕ) → graph.live node ≡ true
      → machine.bit (cycle + 1) node ≡ next_bit graph seen machine cycle node (graph.form node)
  pub counters : (cycle node : ℕ) → graph.live node ≡ true
      → machine.counter (cycle + 1) node ≡ next_counter machine cycle node (graph.form node)
