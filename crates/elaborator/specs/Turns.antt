-- What an elaboration gives: the graph of one turn of a body or of two, and the nodes of the begins and ends of its acts and of
-- the body. The graph stands for the points, and occurs as every run does.
use Rattle.std.specs.Prelude.{ℕ, ◌≡◌, ◌*◌, ◌<◌, ◌≤◌, Bool, List, [], ◌++◌, length, slice_get, Some}
use Rattle.core_term.specs.Term.{Term}
use Rattle.core_term.specs.Numbering.{size, Numbered}
use Rattle.core_term.specs.Points.{Spot}
use Rattle.core_term.specs.Order.{point}
use Rattle.event_graph.specs.Event.{Event}
use Rattle.event_graph.specs.Forms.{delays}
use Rattle.elaborator.specs.declared.turn.Turn.{Turn}
use Rattle.elaborator.specs.declared.elab.Elab.{Elab}
use Rattle.event_points.specs.Owned.{owned, count, drawn_all}
use Rattle.event_points.specs.Table.{Entry, entries, node_in, arms_in}
use Rattle.event_points.specs.Nodes.{once, twice, first_table, node_of, turn_number}
use Rattle.event_points.specs.Graphs.{IsGraphOnce, IsGraphTwice}
use Rattle.event_points.specs.TurnTimes.{OccurOnce, OccurTwice}
use Rattle.elaborator.specs.Seen.{points_in, body_in, points_at, body_at}

-- of one turn
pub record IsOnce (t : Term) (elab : Elab) : Type 0 where
  pub graph : elab.graph ≡ once t
  pub stands : IsGraphOnce t elab.graph (node_in (first_table t))
  pub occurs : OccurOnce t elab.graph (node_in (first_table t))
  pub acts : (site : ℕ) → site < size t → points_in elab 1 site ≡ Some (points_at (node_in (first_table t)) site)
  pub body : body_in elab 1 ≡ Some (body_at (node_in (first_table t)) t)

-- of two turns that follow each other
pub record IsTwice (t : Term) (elab : Elab) : Type 0 where
  pub graph : elab.graph ≡ twice t
  pub stands : IsGraphTwice t elab.graph (node_of t)
  pub occurs : OccurTwice t elab.graph (node_of t)
  pub acts : (late : Bool) (site : ℕ) → site < size t
      → points_in elab (turn_number late) site ≡ Some (points_at (λ b. node_of t (point late b)) site)
  pub body : (late : Bool) → body_in elab (turn_number late) ≡ Some (body_at (λ b. node_of t (point late b)) t)

-- For the code's own functions: the nodes of a turn as it keeps them, and what a turn adds to the nodes before it, where it
-- begins at one of them.
pub record TurnIs (node : Spot → ℕ) (t : Term) (turn : Turn) : Type 0 where
  pub acts : (site : ℕ) → site < size t → slice_get turn.acts.items site ≡ Some (points_at node site)
  pub body : turn.body ≡ body_at node t

abbrev pub table_from : (number begin : ℕ) → Term → List Event → List Entry
table_from number begin t old = entries number (length old) begin [] t

abbrev pub added : (number begin : ℕ) → Term → List Event → List Event
added number begin t old =
    drawn_all (node_in (table_from number begin t old)) (arms_in number (table_from number begin t old)) (owned t)

pub record TurnDrawn (number begin : ℕ) (t : Term) (old new : List Event) (turn : Turn) : Type 0 where
  pub events : new ≡ old ++ added number begin t old
  pub short : delays (added number begin t old) ≤ 65535 * size t
  pub numbered : Numbered [] 0 t
  pub few : size t ≤ 512
  pub small : count t ≤ 1534
  pub end_there : turn.body.end < length new
  pub turn_is : TurnIs (node_in (table_from number begin t old)) t turn
