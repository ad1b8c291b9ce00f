-- That the graph of a body occurs as a run does: each event of a point occurs at the cycle that the run gives to the point.
--
-- The run is any walk over any input list: the source run and the re-reading run are both cases.
use Rattle.std.specs.Prelude.{ℕ, suc, ◌≡◌, ◌+◌, ◌<◌, Bool, true, false, List, [], Option, Some, None}
use Rattle.order_rules.specs.Standing.{IsPoint}
use Rattle.core_term.specs.Inputs.{Inputs}
use Rattle.core_term.specs.Ends.{Sees}
use Rattle.core_term.specs.Term.{Expr, Term, head}
use Rattle.core_term.specs.Numbering.{Numbered}
use Rattle.core_term.specs.Points.{Spot, End}
use Rattle.core_term.specs.Order.{Point, point, HasForm}
use Rattle.core_term.specs.Graph.{HasFormOnce}
use Rattle.core_term.specs.Occurs.{Occurrence, At}
use Rattle.run_laws.specs.TurnLaws.{times, IsFirst, answer}
use Rattle.core_term.specs.Turns.{begins, HasBegun}
use Rattle.core_term.specs.Acts.{OnPort, Asks}
use Rattle.event_graph.specs.Event.{Event}
use Rattle.event_graph.specs.Times.{Given, AreTimes}
use Rattle.event_points.specs.Table.{node_in}
use Rattle.event_points.specs.Nodes.{once, twice, first_table, node_of, turn_number}

-- what is given for the turn of a number are the delays of the acts on ports of the turn i of a walk, and the sides that its
-- `if`s decided for. An act on a port that does not end within the list has no delay
pub record IsTurnOf (inputs : Inputs) (view : Sees) (body : Term) (i number : ℕ) (node : Spot → ℕ) (given : Given) : Type 0 where
  pub delay : (q : ℕ) (act : HasBegun inputs view body i q) (m cycles : ℕ) → OnPort (head act.term) m
      → IsFirst (answer inputs (head act.term)) inputs.count act.begin (act.begin + cycles)
      → given.delay (node (End q)) ≡ Some cycles
  pub no_delay : (q : ℕ) (act : HasBegun inputs view body i q) (m : ℕ) → OnPort (head act.term) m
      → ((t : ℕ) → IsFirst (answer inputs (head act.term)) inputs.count act.begin t → ⊥)
      → given.delay (node (End q)) ≡ None
  pub side : (q : ℕ) (act : HasBegun inputs view body i q) (e : Expr) → Asks (head act.term) e
      → given.side number q ≡ view.decide q act.begin act.scope e

-- an event occurs at the cycle of its point; where the point has none, the event does not occur within so many cycles
pub record OccursWith (cycles : ℕ) (point : Occurrence) (event : Option ℕ) : Type 0 where
  pub up : (t : ℕ) → point ≡ At t → event ≡ Some t
  pub down : (t : ℕ) → event ≡ Some t → t < cycles → point ≡ At t

-- nodes occur as every turn of every walk does that begins in the list
abbrev pub OccurOnce : Term → List Event → (Spot → ℕ) → Type 0
OccurOnce body events node =
    (inputs : Inputs) (view : Sees) (i : ℕ) (given : Given)
    → begins inputs view body i ≡ Some (given.start 0) → IsTurnOf inputs view body i 1 node given
    → (time : ℕ → Option ℕ) → AreTimes events given time
    → (b : Spot) → IsPoint Spot (HasFormOnce body) b
    → OccursWith inputs.count (times inputs view body i b) (time (node b))

-- the turn i and the next
abbrev pub turn_of : ℕ → Bool → ℕ
turn_of i false = i
turn_of i true = suc i

-- nodes occur as every two turns of every walk do that follow each other, where the first begins in the list
abbrev pub OccurTwice : Term → List Event → (Point → ℕ) → Type 0
OccurTwice body events node =
    (inputs : Inputs) (view : Sees) (i : ℕ) (given : Given)
    → begins inputs view body i ≡ Some (given.start 0)
    → ((late : Bool) → IsTurnOf inputs view body (turn_of i late) (turn_number late) (λ b. node (point late b)) given)
    → (time : ℕ → Option ℕ) → AreTimes events given time
    → (b : Point) → IsPoint Point (HasForm body) b
    → OccursWith inputs.count (times inputs view body (turn_of i b.late) b.spot) (time (node b))

-- The nodes of a numbered body occur as its runs do.
abbrev pub NodesOccurInTurns : Type 0
NodesOccurInTurns = (body : Term) → Numbered [] 0 body → OccurOnce body (once body) (node_in (first_table body))

abbrev pub NodesOccurInTwoTurns : Type 0
NodesOccurInTwoTurns = (body : Term) → Numbered [] 0 body → OccurTwice body (twice body) (node_of body)
