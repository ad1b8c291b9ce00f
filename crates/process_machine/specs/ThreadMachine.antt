-- The machine of a thread, by what its nets and registers show in each cycle.
--
-- Over the graph of one turn of its body it has the pulses of the nodes. For each act it has a net with the value that
-- the act's expression has when it is read again in this cycle; for each `if` its condition, the side of its latest
-- decision, and a register that keeps that side.
use Rattle.std.specs.Prelude.{ℕ, ◌≡◌, ◌<◌, ◌≤◌, ◌==◌, ◌||◌, Bool, true, false, List, []}
use Rattle.order_rules.specs.Form.{Form, Sync}
use Rattle.core_term.specs.Inputs.{Inputs}
use Rattle.core_term.specs.Term.{Expr, Term, Act, site, head}
use Rattle.core_term.specs.Numbering.{size}
use Rattle.core_term.specs.Ends.{Sees}
use Rattle.core_term.specs.Points.{Spot, Begin}
use Rattle.core_term.specs.Stands.{Stands}
use Rattle.core_term.specs.Acts.{OnPort, Uses, Asks}
use Rattle.core_term.specs.Reread.{read_again, deciding}
use Rattle.run_laws.specs.TurnLaws.{answer}
use Rattle.turn_pulses.specs.TurnGraph.{TurnGraph, IsTurnGraph}
use Rattle.turn_pulses.specs.PulseMachine.{Seen, PulseMachine, IsPulseMachine}
use Rattle.turn_pulses.specs.Latest.{IsLatest}
use Rattle.turn_machine.specs.Draws.{ComeTogether, Draws}

-- the graph, what its machine sees, the point of each node and the pulses; by site the node of the begin of each act
-- and that of the end of each act on a port; by site and cycle the value read again, the condition, and the side that
-- is shown and kept
pub record ThreadMachine : Type 0 where
  pub graph : TurnGraph
  pub seen : Seen
  pub point : (node : ℕ) → Spot
  pub pulses : PulseMachine
  pub begin_node : (site : ℕ) → ℕ
  pub end_node : (site : ℕ) → ℕ
  pub value : (site cycle : ℕ) → ℕ
  pub decision : (site cycle : ℕ) → Bool
  pub side : (site cycle : ℕ) → Bool
  pub kept_side : (site cycle : ℕ) → Bool

-- the act of the site begins in this cycle
abbrev pub begins_in : ThreadMachine → (site cycle : ℕ) → Bool
begins_in machine place cycle = machine.pulses.pulse cycle (machine.begin_node place)

-- an act on a port is offered: it begins, or it is pending
abbrev pub offer : PulseMachine → (node cycle : ℕ) → Form ℕ → Bool
offer pulses node cycle (Sync from) = pulses.pulse cycle from || pulses.bit cycle node
offer pulses node cycle form = false

abbrev pub offered_in : ThreadMachine → (site cycle : ℕ) → Bool
offered_in machine place cycle =
    offer machine.pulses (machine.end_node place) cycle (machine.graph.form (machine.end_node place))

-- the node of the end of an act on a port: it waits, from the begin of the act on, for the wire that ends the act
pub record HasPortEnd (inputs : Inputs) (view : Sees) (body : Term) (machine : ThreadMachine) (act : Act) : Type 0 where
  pub live : machine.graph.live (machine.end_node (site act)) ≡ true
  pub from : ℕ
  pub is_sync : machine.graph.form (machine.end_node (site act)) ≡ Sync from
  pub is_begin : ComeTogether inputs view body (machine.point from) (Begin (site act))
  pub wire : (cycle : ℕ) → machine.seen.wire (machine.end_node (site act)) cycle ≡ answer inputs act cycle

-- values, conditions and sides. A site that has no `if` has a condition and a side that are never 1
pub record ReadsAgain (inputs : Inputs) (registers : ℕ → ℕ → ℕ) (body : Term) (begins : (site cycle : ℕ) → Bool)
    (value : (site cycle : ℕ) → ℕ) (decision side kept_side : (site cycle : ℕ) → Bool) : Type 0 where
  pub values : (scope : List Act) (term : Term) (used : Expr) → Stands [] body scope term → Uses (head term) used
      → (cycle : ℕ) → cycle < inputs.count
      → value (site (head term)) cycle ≡ read_again inputs registers side cycle scope used
  pub conditions : (scope : List Act) (term : Term) (condition : Expr) → Stands [] body scope term
      → Asks (head term) condition → (cycle : ℕ) → cycle < inputs.count
      → decision (site (head term)) cycle ≡ (value (site (head term)) cycle == 1)
  pub sides : (place : ℕ) → place < size body
      → IsLatest (begins place) (decision place) (side place) (kept_side place)
  pub no_side : (place cycle : ℕ) → size body ≤ place → side place cycle ≡ false

-- The equations of a machine of the thread.
pub record IsThreadMachine (inputs : Inputs) (registers : ℕ → ℕ → ℕ) (body : Term)
    (machine : ThreadMachine) : Type 0 where
  pub draws : Draws inputs (deciding registers machine.decision) machine.decision body
      machine.graph machine.seen machine.point
  pub graph_is : IsTurnGraph machine.graph
  pub pulses_are : IsPulseMachine machine.graph machine.seen machine.pulses
  pub begin_live : (place : ℕ) → place < size body → machine.graph.live (machine.begin_node place) ≡ true
  pub begin_is : (place : ℕ) → place < size body
      → ComeTogether inputs (deciding registers machine.decision) body
      (machine.point (machine.begin_node place)) (Begin place)
  pub port_ends : (scope : List Act) (term : Term) (port : ℕ) → Stands [] body scope term → OnPort (head term) port
      → HasPortEnd inputs (deciding registers machine.decision) body machine (head term)
  pub reads : ReadsAgain inputs registers body (begins_in machine)
      machine.value machine.decision machine.side machine.kept_side
