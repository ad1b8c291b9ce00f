-- The graph of one turn of a body, read off nodes that stand for the points of the turn.
--
-- The machine of a thread takes from the elaborated graph the form of each node and the node of each point, and no
-- more. A node that stands for a point has a point whose form it has: that is the point that it draws. Which nodes
-- are live, their points, the tail and the joins that forget are computed from these.
use Rattle.std.specs.Prelude.{
  ℕ,
  ◌≡◌,
  ◌==◌,
  ◌<◌,
  ◌&&◌,
  if◌then◌else◌,
  not,
  Bool,
  true,
  false,
  List,
  [],
  ◌∷◌,
  Option,
  Some,
  None,
}
use Rattle.order_rules.specs.Form.{Form, Start, Same, After, Sync, Join, Side, Merge}
use Rattle.order_rules.specs.Standing.{map_form}
use Rattle.core_term.specs.Inputs.{Inputs}
use Rattle.core_term.specs.Term.{Term, Act, If, When, site, head}
use Rattle.core_term.specs.Numbering.{size, Numbered}
use Rattle.core_term.specs.Tail.{IsTail, CyclesTakeTime}
use Rattle.core_term.specs.Stands.{Stands}
use Rattle.core_term.specs.Acts.{OnPort}
use Rattle.core_term.specs.Points.{Spot, TermBegin, TermEnd, Begin, End, NoSide, Formed, ◌is◌, forms}
use Rattle.core_term.specs.Graph.{StandsOnce}
use Rattle.run_laws.specs.TurnLaws.{answer}
use Rattle.core_term.specs.Reread.{deciding}
use Rattle.turn_pulses.specs.TurnGraph.{TurnGraph, IsTurnGraph}
use Rattle.turn_pulses.specs.PulseMachine.{Seen}
use Rattle.turn_machine.specs.TailEnds.{tail_ends, is_tail}
use Rattle.turn_machine.specs.Draws.{ComeTogether, Draws}

-- what is asked of a body: numbered from 0, tail-stepped, and each `cycle` in it takes time
pub record IsTurnBody (body : Term) : Type 0 where
  pub numbered : Numbered [] 0 body
  pub tail : IsTail body
  pub cycles : CyclesTakeTime body

abbrev pub are_same_form : Form ℕ → Form ℕ → Bool
are_same_form Start Start = true
are_same_form (Same from) (Same other) = from == other
are_same_form (After delay from) (After time other) = (delay == time) && (from == other)
are_same_form (Sync from) (Sync other) = from == other
are_same_form (Join first second) (Join one other) = (first == one) && (second == other)
are_same_form (Side from) (Side other) = from == other
are_same_form (Merge first second) (Merge one other) = (first == one) && (second == other)
are_same_form form other = false

-- the first of these points that has the node and its form
abbrev pub drawn_point : (form : ℕ → Form ℕ) → (node_of : Spot → ℕ) → (node : ℕ) → List Formed → Option Spot
drawn_point form node_of node [] = None
drawn_point form node_of node (formed ∷ rest) =
    if (node_of formed.spot == node) && are_same_form (map_form node_of formed.form) (form node)
    then Some formed.spot
    else drawn_point form node_of node rest

abbrev pub point_or : Spot → Option Spot → Spot
point_or other None = other
point_or other (Some point) = point

abbrev pub is_some : Option Spot → Bool
is_some None = false
is_some (Some point) = true

-- the points of one turn with their forms; the begin of the turn comes first
abbrev pub turn_points : Term → List Formed
turn_points body = (TermBegin (site (head body)) is Start) ∷ forms body

-- the point that a node draws
abbrev pub point_of : Term → (form : ℕ → Form ℕ) → (node_of : Spot → ℕ) → (node : ℕ) → Spot
point_of body form node_of node =
    point_or (TermBegin (site (head body))) (drawn_point form node_of node (turn_points body))

-- The graph. A join that is none of the tail forgets at each begin of a turn: the `if` around a wait may decide for its
-- other side, and then one end of the join comes alone.
abbrev pub turn_graph : Term → (form : ℕ → Form ℕ) → (node_of : Spot → ℕ) → TurnGraph
turn_graph body form node_of = record {
  live = λ node. is_some (drawn_point form node_of node (turn_points body));
  form = form;
  last = node_of (TermEnd (site (head body)));
  tail = λ node. is_tail (tail_ends body) (point_of body form node_of node);
  forgets = λ node. not (is_tail (tail_ends body) (point_of body form node_of node));
}

-- the sides of an `if` are chosen by its condition
abbrev pub SeesSides : (decision : ℕ → ℕ → Bool) → (node_of : Spot → ℕ) → (chosen : ℕ → ℕ → Bool) → Act → Type 0
SeesSides decision node_of chosen (If p condition first second valued) =
    ((start : ℕ) → chosen (node_of (TermBegin (site (head first)))) start ≡ decision p start)
    × ((start : ℕ) → chosen (node_of (TermBegin (site (head second)))) start ≡ not (decision p start))
SeesSides decision node_of chosen (When p condition first) =
    ((start : ℕ) → chosen (node_of (TermBegin (site (head first)))) start ≡ decision p start)
    × ((start : ℕ) → chosen (node_of (NoSide p)) start ≡ not (decision p start))
SeesSides decision node_of chosen act = Unit {0}

-- what the machine sees: at the end of each act on a port the wire that ends it, at each side the condition
pub record SeesTurn (inputs : Inputs) (decision : ℕ → ℕ → Bool) (body : Term)
    (node_of : Spot → ℕ) (seen : Seen) : Type 0 where
  pub wires : (scope : List Act) (term : Term) (port : ℕ) → Stands [] body scope term → OnPort (head term) port
      → (cycle : ℕ) → seen.wire (node_of (End (site (head term)))) cycle ≡ answer inputs (head term) cycle
  pub sides : (scope : List Act) (term : Term) → Stands [] body scope term
      → SeesSides decision node_of seen.chosen (head term)

-- the node of a point is live and comes with it
pub record HasNode (inputs : Inputs) (registers : ℕ → ℕ → ℕ) (decision : ℕ → ℕ → Bool) (body : Term)
    (form : ℕ → Form ℕ) (node_of : Spot → ℕ) (point : Spot) : Type 0 where
  pub live : (turn_graph body form node_of).live (node_of point) ≡ true
  pub together :
      ComeTogether inputs (deciding registers decision) body (point_of body form node_of (node_of point)) point

-- the graph draws the turn. It has a node for the begin of each act, and for the end of each act on a port one that
-- waits from that begin on
pub record DrawsTurn (inputs : Inputs) (registers : ℕ → ℕ → ℕ) (decision : ℕ → ℕ → Bool) (body : Term)
    (form : ℕ → Form ℕ) (node_of : Spot → ℕ) (seen : Seen) : Type 0 where
  pub draws : Draws inputs (deciding registers decision) decision body
      (turn_graph body form node_of) seen (point_of body form node_of)
  pub begins : (place : ℕ) → place < size body
      → HasNode inputs registers decision body form node_of (Begin place)
  pub port_ends : (scope : List Act) (term : Term) (port : ℕ) → Stands [] body scope term → OnPort (head term) port
      → HasNode inputs registers decision body form node_of (End (site (head term)))
      × (form (node_of (End (site (head term)))) ≡ Sync (node_of (Begin (site (head term)))))

-- Nodes that stand for the points of one turn give a graph that a machine can be built over, and that draws the turn.
abbrev pub OneTurnIsDrawn : Type 0
OneTurnIsDrawn =
    (body : Term) → IsTurnBody body
    → (form : ℕ → Form ℕ) (apart : ℕ → ℕ → Bool) (node_of : Spot → ℕ) → StandsOnce body form apart node_of
    → IsTurnGraph (turn_graph body form node_of)
    × ((inputs : Inputs) (registers : ℕ → ℕ → ℕ) (decision : ℕ → ℕ → Bool) (seen : Seen)
    → SeesTurn inputs decision body node_of seen
    → DrawsTurn inputs registers decision body form node_of seen)
