-- That nodes are the graph of a body: they stand for its points, and each lies in the sides in which its point lies.
use Rattle.std.specs.Prelude.{ℕ, ◌≡◌, ◌<◌, List, [], length}
use Rattle.order_rules.specs.Entry.{IsEarlier}
use Rattle.order_rules.specs.Laws as nodes
use Rattle.order_rules.specs.Standing.{IsPoint, Stands}
use Rattle.core_term.specs.Term.{Term}
use Rattle.core_term.specs.Numbering.{Numbered}
use Rattle.core_term.specs.Points.{Spot}
use Rattle.core_term.specs.Order.{Point, HasForm, Exclusive}
use Rattle.core_term.specs.Graph.{HasFormOnce, StandsOnce}
use Rattle.event_graph.specs.Event.{Event}
use Rattle.event_graph.specs.Forms.{form_at, arms_at, apart_at}
use Rattle.event_points.specs.Table.{node_in, arms_in}
use Rattle.event_points.specs.Nodes.{once, twice, first_table, node_of, arms_of}

-- The graph of one turn.
pub record IsGraphOnce (body : Term) (events : List Event) (node : Spot → ℕ) : Type 0 where
  pub stands : StandsOnce body (form_at events) (apart_at events) node
  pub inside : (b : Spot) → IsPoint Spot (HasFormOnce body) b
      → (node b < length events) × (arms_at events (node b) ≡ arms_in 1 (first_table body) b)

-- The graph of two turns.
pub record IsGraphTwice (body : Term) (events : List Event) (node : Point → ℕ) : Type 0 where
  pub earlier : (n : ℕ) → IsEarlier n (form_at events n)
  pub stands : Stands Point ℕ (HasForm body) (nodes.HasForm (form_at events)) (Exclusive body) (nodes.Apart (apart_at events)) node
  pub inside : (b : Point) → IsPoint Point (HasForm body) b
      → (node b < length events) × (arms_at events (node b) ≡ arms_of body b)

-- The nodes of a numbered body are the graph of its one turn, and of its two.
abbrev pub OneTurnStands : Type 0
OneTurnStands = (body : Term) → Numbered [] 0 body → IsGraphOnce body (once body) (node_in (first_table body))

abbrev pub TwoTurnsStand : Type 0
TwoTurnsStand = (body : Term) → Numbered [] 0 body → IsGraphTwice body (twice body) (node_of body)
