-- That the judgements over the nodes of the graph of one turn are those over the points of the turn. `elaborate`
-- gives this graph and these nodes; of two turns the laws of `core_term: TableLaws` tell the same.
use Rattle.std.specs.Prelude.{ℤ, []}
use Rattle.order_rules.specs.Before.{Before}
use Rattle.order_rules.specs.Standing.{IsPoint}
use Rattle.core_term.specs.Term.{Term}
use Rattle.core_term.specs.Numbering.{Numbered}
use Rattle.core_term.specs.Points.{Spot}
use Rattle.core_term.specs.Order.{Apart}
use Rattle.core_term.specs.Graph.{HasFormOnce}
use Rattle.event_graph.specs.Forms.{Precedes}
use Rattle.event_points.specs.Table.{node_in}
use Rattle.event_points.specs.Nodes.{once, first_table}

-- a + d <= b, over the points of one turn
abbrev pub PrecedesOnce : Term → Spot → ℤ → Spot → Type 0
PrecedesOnce body = Before Spot (HasFormOnce body) (Apart body)

-- and over their nodes
abbrev pub NodesPrecede : Term → Spot → ℤ → Spot → Type 0
NodesPrecede body a d b = Precedes (once body) (node_in (first_table body) a) d (node_in (first_table body) b)

-- A judgement over points of the text holds exactly where it holds over their nodes.
abbrev pub OneTurnTells : Type 0
OneTurnTells =
    (body : Term) → Numbered [] 0 body
    → (a b : Spot) → IsPoint Spot (HasFormOnce body) a → IsPoint Spot (HasFormOnce body) b → (d : ℤ)
    → (PrecedesOnce body a d b → NodesPrecede body a d b) × (NodesPrecede body a d b → PrecedesOnce body a d b)
