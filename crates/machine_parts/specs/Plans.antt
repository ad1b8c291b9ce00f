-- That a plan is of one turn of a body: its nodes are those of the graph, and each knows what it waits for.
use Rattle.std.specs.Prelude.{ℕ, ◌≡◌, ◌<◌, ◌≤◌, Bool, true, false, List, [], length}
use Rattle.core_term.specs.Term.{Term, Act, If, When, site, head}
use Rattle.core_term.specs.Numbering.{size}
use Rattle.core_term.specs.Stands.{Stands}
use Rattle.core_term.specs.Acts.{OnPort}
use Rattle.core_term.specs.Points.{Spot, TermBegin, TermEnd, Begin, End, NoSide}
use Rattle.event_graph.specs.Forms.{form_at}
use Rattle.event_points.specs.Nodes.{once, first_table}
use Rattle.event_points.specs.Table.{node_in}
use Rattle.turn_pulses.specs.TurnGraph.{TurnGraph}
use Rattle.turn_machine.specs.OneTurn.{turn_graph}
use Rattle.act_deeds.specs.Deeds.{AreDeeds}
use Rattle.machine_parts.specs.declared.plan.Event.TheVariants as event
use Rattle.machine_parts.specs.declared.plan.TurnPlan.{TurnPlan}
use Rattle.machine_parts.specs.Parts.{plan_at, form_in, node_at}

-- the node of a point of the body, and the graph of one turn of it
abbrev pub node_of : Term → Spot → ℕ
node_of body = node_in (first_table body)

abbrev pub graph_of : Term → TurnGraph
graph_of body = turn_graph body (form_at (once body)) (node_of body)

-- the nodes of the sides of an `if` wait for its decision
abbrev pub SidesWait : TurnPlan → Term → Act → Type 0
SidesWait plan body (If p condition first second valued) =
    ((plan_at plan.nodes.items (node_of body (TermBegin (site (head first))))).event ≡ event.Side p true)
    × ((plan_at plan.nodes.items (node_of body (TermBegin (site (head second))))).event ≡ event.Side p false)
SidesWait plan body (When p condition first) =
    ((plan_at plan.nodes.items (node_of body (TermBegin (site (head first))))).event ≡ event.Side p true)
    × ((plan_at plan.nodes.items (node_of body (NoSide p))).event ≡ event.Side p false)
SidesWait plan body act = Unit {0}

pub record IsTurnPlan (body : Term) (plan : TurnPlan) : Type 0 where
  -- the nodes are those of the graph, which are exactly the live ones
  pub count : length plan.nodes.items ≡ length (once body)
  pub few : length plan.nodes.items < 8192
  pub forms : (node : ℕ) → node < length plan.nodes.items → form_in plan.nodes.items node ≡ form_at (once body) node
  pub live : (node : ℕ) → node < length plan.nodes.items → (graph_of body).live node ≡ true
  pub dead : (node : ℕ) → length plan.nodes.items ≤ node → (graph_of body).live node ≡ false
  pub tails : (node : ℕ) → node < length plan.nodes.items
      → (plan_at plan.nodes.items node).tail ≡ (graph_of body).tail node
  -- the nodes of the acts and of the end
  pub begin_count : length plan.begins.items ≡ size body
  pub end_count : length plan.ends.items ≡ size body
  pub begins : (place : ℕ) → place < size body → node_at plan.begins.items place ≡ node_of body (Begin place)
  pub ends : (place : ℕ) → place < size body → node_at plan.ends.items place ≡ node_of body (End place)
  pub begins_inside : (place : ℕ) → place < size body → node_of body (Begin place) < length plan.nodes.items
  pub last : plan.last ≡ node_of body (TermEnd (site (head body)))
  pub deeds : AreDeeds body plan.deeds.items
  pub few_acts : size body ≤ 512
  -- what nodes wait for
  pub wires : (scope : List Act) (term : Term) (port : ℕ) → Stands [] body scope term → OnPort (head term) port
      → (plan_at plan.nodes.items (node_of body (End (site (head term))))).event ≡ event.Wire port
  pub sides : (scope : List Act) (term : Term) → Stands [] body scope term → SidesWait plan body (head term)
  -- a node that waits for the decision of an `if` comes after the begins of all acts up to it
  pub in_order : (node place : ℕ) (first : Bool) → node < length plan.nodes.items
      → (plan_at plan.nodes.items node).event ≡ event.Side place first
      → (place < size body) × ((before : ℕ) → before ≤ place → node_of body (Begin before) < node)
