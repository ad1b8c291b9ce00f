-- What is read off the graph of a turn, node by node: shapes, the nodes of the tail, and the sides that nodes wait for.
use Rattle.std.specs.Prelude.{
  ℕ,
  ◌≡◌,
  ◌<◌,
  ◌↔◌,
  Bool,
  true,
  false,
  List,
  [],
  ◌∷◌,
  length,
  set,
  slice_get,
  slice_index_or,
  Option,
  Some,
  None,
}
use Rattle.order_rules.specs.Form.{Form, Start, Same, After, Sync, Join, Side, Merge}
use Rattle.order_rules.specs.Entry.{IsEarlier}
use Rattle.core_term.specs.Term.{Term}
use Rattle.core_term.specs.Numbering.{size}
use Rattle.core_term.specs.Points.{Begin, End}
use Rattle.event_graph.specs.declared.node.Arm.{Arm}
use Rattle.event_graph.specs.declared.node.Kind.{Kind}
use Rattle.event_graph.specs.declared.node.Kind.TheVariants as kind
use Rattle.event_graph.specs.Event as seen
use Rattle.event_graph.specs.Forms.{form_at}
use Rattle.turn_machine.specs.Reached.{IsReached}
use Rattle.pulse_nets.specs.declared.node.Shape.{Shape}
use Rattle.pulse_nets.specs.declared.node.Shape.TheVariants as shape
use Rattle.pulse_nets.specs.Pulses.{form_of}
use Rattle.machine_parts.specs.declared.plan.Event.{Event}
use Rattle.machine_parts.specs.declared.plan.Event.TheVariants as event
use Rattle.machine_parts.specs.declared.plan.NodePlan.{NodePlan}
use Rattle.machine_parts.specs.Parts.{plan_at, node_at}
use Rattle.machine_parts.specs.Plans.{node_of}

abbrev pub shape_at : List Shape → ℕ → Shape
shape_at shapes node = slice_index_or shapes node shape.Start

abbrev pub tail_at : List Bool → ℕ → Bool
tail_at tails node = slice_index_or tails node false

abbrev pub event_at : List Event → ℕ → Event
event_at events node = slice_index_or events node event.Nothing

-- the decision for the side that the last arm names
abbrev pub decision_of : List Arm → Event
decision_of [] = event.Nothing
decision_of (arm ∷ []) = event.Side arm.site arm.yes
decision_of (arm ∷ next ∷ rest) = decision_of (next ∷ rest)

-- what a node waits for by the side that it begins
abbrev pub event_by : Kind → List Arm → Event
event_by kind.Side arms = decision_of arms
event_by _ arms = event.Nothing

abbrev pub event_of : seen.Event → Event
event_of node = event_by node.kind node.arms

abbrev pub side_in : Option seen.Event → Event
side_in None = event.Nothing
side_in (Some node) = event_of node

-- of all nodes
pub record AreShapes (graph : List seen.Event) (shapes : List Shape) : Type 0 where
  pub count : length shapes ≡ length graph
  pub forms : (node : ℕ) → form_of (shape_at shapes node) ≡ form_at graph node

pub record AreSides (graph : List seen.Event) (events : List Event) : Type 0 where
  pub count : length events ≡ length graph
  pub sides : (node : ℕ) → event_at events node ≡ side_in (slice_get graph node)

abbrev pub AreEarlier : List Shape → Type 0
AreEarlier shapes = (node : ℕ) → IsEarlier node (form_of (shape_at shapes node))

-- the predecessors of a node of this form are marked, where it comes with them
abbrev pub marked_by : Form ℕ → List Bool → List Bool
marked_by Start tails = tails
marked_by (Same from) tails = set tails from true
marked_by (After delay from) tails = tails
marked_by (Sync from) tails = tails
marked_by (Join first second) tails = set (set tails first true) second true
marked_by (Side from) tails = tails
marked_by (Merge first second) tails = set (set tails first true) second true

-- the nodes that are reached back from the last one
pub record AreTails (shapes : List Shape) (last : ℕ) (tails : List Bool) : Type 0 where
  pub count : length tails ≡ length shapes
  pub reached : (node : ℕ) → (tail_at tails node ≡ true) ↔ IsReached (λ n. form_of (shape_at shapes n)) last node

-- the nodes of a plan
pub record AreNodesOf (shapes : List Shape) (tails : List Bool) (events : List Event)
    (nodes : List NodePlan) : Type 0 where
  pub count : length nodes ≡ length shapes
  pub at : (node : ℕ) → node < length shapes
      → plan_at nodes node
      ≡ record { shape = shape_at shapes node; tail = tail_at tails node; event = event_at events node }

-- the nodes of the begins and ends of the acts of a body
pub record AreBegins (body : Term) (begins : List ℕ) : Type 0 where
  pub count : length begins ≡ size body
  pub at : (place : ℕ) → place < size body → node_at begins place ≡ node_of body (Begin place)

pub record AreEnds (body : Term) (ends : List ℕ) : Type 0 where
  pub count : length ends ≡ size body
  pub at : (place : ℕ) → place < size body → node_at ends place ≡ node_of body (End place)
