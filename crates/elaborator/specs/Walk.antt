-- What the elaboration of a part of a body needs, and what it gives.
--
-- It is told for nodes and arms of all points of a turn that are known beforehand: `Table` has such.
use Rattle.std.specs.Prelude.{ℕ, ◌≡◌, ◌+◌, ◌*◌, ◌<◌, ◌≤◌, List, ◌++◌, length, slice_get, Some}
use Rattle.core_term.specs.Term.{Term, Then, Both, Act, site}
use Rattle.core_term.specs.Points.{Spot, Begin, End}
use Rattle.core_term.specs.declared.term.CoreAct.{CoreAct}
use Rattle.core_term.specs.declared.term.CoreTerm.{CoreTerm}
use Rattle.core_term.specs.Widths.{Widths}
use Rattle.core_term.specs.View.{term_of, act_of, after_act}
use Rattle.core_term.specs.Numbering.{size, act_size, Numbered, NumberedAct, OneOf}
use Rattle.event_graph.specs.declared.node.Arm.{Arm}
use Rattle.event_graph.specs.Event.{Event}
use Rattle.event_graph.specs.Forms.{delays}
use Rattle.elaborator.specs.declared.points.Points.{Points}
use Rattle.event_points.specs.Owned.{begin_of, end_of, owned, owned_of, count, count_of, drawn_all}
use Rattle.elaborator.specs.Seen.{points_at}
use Rattle.event_points.specs.Placed.{Placed, PlacedAct, Lies, LiesAct, HeadLies}

-- the acts in scope are made: their ends stand in the table, and are nodes that are there
pub record Made (node : Spot → ℕ) (from : ℕ) (points : List Points) (y : ℕ) : Type 0 where
  pub early : node (End y) < from
  pub at : slice_get points y ≡ Some (points_at node y)

-- what the elaboration of a term needs that begins at a node, in these sides, where so many nodes and these points are there
pub record Plan (turn from begin : ℕ) (these : List Arm) (points : List Points) (t : Term) : Type 0 where
  pub node : Spot → ℕ
  pub arms : Spot → List Arm
  pub scope : List Act
  pub low : ℕ
  pub numbered : Numbered scope low t
  pub placed : Placed node from t
  pub lies : Lies turn arms these t
  pub begin_is : node (begin_of t) ≡ begin
  pub early : begin < from
  pub made : (y : ℕ) → OneOf scope y → (y < low) × Made node from points y
  pub sites : low + size t ≤ length points
  pub room : from + count t ≤ 8192

-- the same of an act
pub record ActPlan (turn from begin : ℕ) (these : List Arm) (points : List Points) (a : Act) : Type 0 where
  pub node : Spot → ℕ
  pub arms : Spot → List Arm
  pub scope : List Act
  pub low : ℕ
  pub numbered : NumberedAct scope low a
  pub placed : PlacedAct node from a
  pub head : HeadLies arms these (site a)
  pub lies : LiesAct turn arms these a
  pub begin_is : node (Begin (site a)) ≡ begin
  pub early : begin < from
  pub made : (y : ℕ) → OneOf scope y → (y < low) × Made node from points y
  pub sites : low + act_size a ≤ length points
  pub room : from + count_of a ≤ 8192

-- the points of the sites from low to high - 1 are written, and those below low are kept
pub record Written (node : Spot → ℕ) (low high : ℕ) (old new : List Points) : Type 0 where
  pub length_is : length new ≡ length old
  pub at : (q : ℕ) → low ≤ q → q < high → slice_get new q ≡ Some (points_at node q)
  pub kept : (q : ℕ) → q < low → slice_get new q ≡ slice_get old q

-- what it gives: the end, the nodes, the points
pub record Drawn {turn from begin : ℕ} {these : List Arm} {old_points : List Points} {t : Term}
    (plan : Plan turn from begin these old_points t) (old new : List Event) (points : List Points) (end : ℕ) : Type 0 where
  pub end_is : end ≡ plan.node (end_of t)
  pub events : new ≡ old ++ drawn_all plan.node plan.arms (owned t)
  pub short : delays (drawn_all plan.node plan.arms (owned t)) ≤ 65535 * size t
  pub written : Written plan.node plan.low (plan.low + size t) old_points points

pub record ActDrawn {turn from begin : ℕ} {these : List Arm} {old_points : List Points} {a : Act}
    (plan : ActPlan turn from begin these old_points a) (first : ℕ) (old new : List Event) (points : List Points) (end : ℕ) : Type 0 where
  pub end_is : end ≡ plan.node (End (site a))
  pub events : new ≡ old ++ drawn_all plan.node plan.arms (owned_of a)
  pub short : delays (drawn_all plan.node plan.arms (owned_of a)) ≤ 65535 * act_size a
  pub written : Written plan.node first (plan.low + act_size a) old_points points

-- the plain terms of an act with a rest
abbrev pub then_of : Widths → CoreAct → CoreTerm → Term
then_of w act rest = Then (act_of w act.site act.kind) (term_of (after_act w (act_of w act.site act.kind)) rest)

abbrev pub both_of : Widths → CoreAct → CoreTerm → Term
both_of w act rest = Both (act_of w act.site act.kind) (term_of (after_act w (act_of w act.site act.kind)) rest)
