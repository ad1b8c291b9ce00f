-- What is proved of the nodes of the graph of one turn, as a machine of its pulses reads them.
use Rattle.std.specs.Prelude.{ℕ, ◌≡◌, ◌<◌, ◌≤◌, ◌↔◌, Bool, true, false, List, [], ◌∷◌, ◌++◌, length}
use Rattle.order_rules.specs.Form.{Sync, Side}
use Rattle.core_term.specs.Term.{Term, Act, If, When, head}
use Rattle.core_term.specs.Numbering.{size, Numbered}
use Rattle.core_term.specs.Acts.{ActOn}
use Rattle.core_term.specs.Points.{Spot, Begin, End, NoSide}
use Rattle.core_term.specs.Stands.{Stands}
use Rattle.event_graph.specs.declared.node.Arm.{Arm}
use Rattle.event_graph.specs.Forms.{form_at, arms_at}
use Rattle.event_points.specs.Owned.{begin_of, end_of}
use Rattle.event_points.specs.Placed.{arm}
use Rattle.event_points.specs.Table.{node_in}
use Rattle.event_points.specs.Nodes.{once, first_table}
use Rattle.turn_pulses.specs.TurnGraph.{TurnGraph}
use Rattle.turn_machine.specs.OneTurn.{IsTurnBody, turn_graph}
use Rattle.turn_machine.specs.Reached.{IsReached}

-- the node of a point of the turn, and the graph of the turn
abbrev pub node_of : Term → Spot → ℕ
node_of body = node_in (first_table body)

abbrev pub graph_of : Term → TurnGraph
graph_of body = turn_graph body (form_at (once body)) (node_of body)

-- The live nodes are those of the graph.
abbrev pub NodesAreLive : Type 0
NodesAreLive =
    (body : Term) → Numbered [] 0 body → (node : ℕ)
    → (node < length (once body) → (graph_of body).live node ≡ true)
    × (length (once body) ≤ node → (graph_of body).live node ≡ false)

-- Those of the tail are reached back from the end of the turn, which is one of them.
abbrev pub TailsAreReached : Type 0
TailsAreReached =
    (body : Term) → IsTurnBody body
    → (node_of body (end_of body) < length (once body))
    × ((node : ℕ) → node < length (once body)
    → ((graph_of body).tail node ≡ true) ↔ IsReached (form_at (once body)) (node_of body (end_of body)) node)

-- The end of an act on a port is a node that waits from the begin of the act on.
abbrev pub PortEndsWait : Type 0
PortEndsWait =
    (body : Term) → Numbered [] 0 body → (place port : ℕ) → ActOn body place port
    → (node_of body (End place) < length (once body))
    × (form_at (once body) (node_of body (End place)) ≡ Sync (node_of body (Begin place)))

-- Different acts on ports end at different nodes.
abbrev pub PortEndsAreApart : Type 0
PortEndsAreApart =
    (body : Term) → Numbered [] 0 body → (one other port another : ℕ)
    → ActOn body one port → ActOn body other another
    → node_of body (End one) ≡ node_of body (End other) → one ≡ other

-- the node begins a side of the `if` of a site: its last arm is that side, and it comes after the begins of all acts up
-- to the `if`
pub record SideDrawn (body : Term) (place : ℕ) (first : Bool) (node : ℕ) : Type 0 where
  pub inside : node < length (once body)
  pub form_is : form_at (once body) node ≡ Side (node_of body (Begin place))
  pub these : List Arm
  pub arms_are : arms_at (once body) node ≡ these ++ arm 1 place first ∷ []
  pub is_site : place < size body
  pub later : (before : ℕ) → before ≤ place → node_of body (Begin before) < node

abbrev pub SidesDrawn : Term → Act → Type 0
SidesDrawn body (If p e t u w) =
    SideDrawn body p true (node_of body (begin_of t)) × SideDrawn body p false (node_of body (begin_of u))
SidesDrawn body (When p e t) =
    SideDrawn body p true (node_of body (begin_of t)) × SideDrawn body p false (node_of body (NoSide p))
SidesDrawn body act = Unit {0}

-- The sides of an `if` begin at nodes of their own.
abbrev pub SidesAreDrawn : Type 0
SidesAreDrawn =
    (body : Term) → Numbered [] 0 body → (scope : List Act) (term : Term) → Stands [] body scope term
    → SidesDrawn body (head term)

-- Each node of the form Side begins a side of an `if`.
abbrev pub SideNodesAreSides : Type 0
SideNodesAreSides =
    (body : Term) → Numbered [] 0 body → (node from : ℕ) → form_at (once body) node ≡ Side from
    → (place : ℕ) × (first : Bool) × SideDrawn body place first node
