-- Nodes that stand for the points of one turn give a graph that a machine can be built over.
--
-- Predecessors are earlier since the nodes come from earlier ones, and live since they are nodes of points. What is asked of the
-- tail is what the text says of the points that the nodes draw.
use Rattle.std.proofs.Common.{not, ◌≡◌, ℕ, refl, sym, ◌∙◌, ap, subst, Bool, true, false}
use Rattle.order_rules.specs.Form.{Form, Start, Same, After, Sync, Join, Side, Merge}
use Rattle.order_rules.specs.Entry.{IsEarlier}
use Rattle.order_rules.specs.Standing.{map_form, AllOf}
use Rattle.core_term.specs.Term.{Term, site, head}
use Rattle.core_term.specs.Points.{Spot, TermEnd}
use Rattle.core_term.specs.Graph.{StandsOnce}
use Rattle.turn_pulses.specs.TurnGraph.{TurnGraph, IsNode, IsTailNode, IsTurnGraph}
use Rattle.turn_machine.specs.TailEnds.{TailEnds, tail_ends, is_tail}
use Rattle.turn_machine.specs.OneTurn.{IsTurnBody, turn_points, point_of, turn_graph}
use Rattle.turn_machine.proofs.TailEnds.{tail_ends_are}
use Rattle.turn_machine.proofs.TailRules.{term_is_tail}
use Rattle.turn_machine.proofs.DrawnPoints.{DrawnBy}
use Rattle.turn_machine.proofs.Drawing.{Point, Has, text, tail_of, has_form, live_point, drawing, near_tail, predecessors}

module _ (body : Term) (body_is : IsTurnBody body) (form : ℕ → Form ℕ) (apart : ℕ → ℕ → Bool) (node_of : Spot → ℕ) (once : StandsOnce body form apart node_of) where
  abbrev graph : TurnGraph
  graph = turn_graph body form node_of

  abbrev tail : TailEnds
  tail = tail_ends body

  abbrev drawn : (node : ℕ) → Spot
  drawn = point_of body form node_of

  abbrev IsOne : Spot → Type 0
  IsOne = Point body body_is form apart node_of once

  abbrev HasForm : Spot → Form Spot → Type 0
  HasForm = Has body body_is form apart node_of once

  by : (node : ℕ) → graph.live node ≡ true → DrawnBy form node_of (turn_points body) node (drawn node)
  by = drawing body body_is form apart node_of once

  has : (node : ℕ) (live : graph.live node ≡ true) → HasForm (drawn node) (by node live).form_of
  has node live = has_form body body_is form apart node_of once (drawn node) (by node live).form_of (by node live).formed

  points : (node : ℕ) (live : graph.live node ≡ true) → AllOf IsOne (by node live).form_of
  points node live = predecessors body body_is form apart node_of once (drawn node) (by node live).form_of (has node live)

  is_live : (point : Spot) → IsOne point → graph.live (node_of point) ≡ true
  is_live = live_point body body_is form apart node_of once

  -- the node of a point is of the tail where the point is
  tail_is : (point : Spot) → IsOne point → graph.tail (node_of point) ≡ is_tail tail point
  tail_is = near_tail body body_is form apart node_of once

  nodes : (node : ℕ) → graph.live node ≡ true → IsNode graph node (form node)
  nodes node live = subst (IsNode graph node) (by node live).mapped (by_form (by node live).form_of (has node live) (points node live) (subst (IsEarlier node) (sym (by node live).mapped) (once.earlier node)))
    where
      not_tail : (of_tail : Bool) → is_tail tail (drawn node) ≡ of_tail → not of_tail ≡ true → is_tail tail (drawn node) ≡ false
      not_tail false is forgets = is
      not_tail true is forgets = absurd cc

      by_form : (form_of : Form Spot) → HasForm (drawn node) form_of → AllOf IsOne form_of → IsEarlier node (map_form node_of form_of) → IsNode graph node (map_form node_of form_of)
      by_form Start has points earlier = tt
      by_form (Same from) has points earlier = (earlier, is_live from points)
      by_form (After delay from) has points earlier = ((earlier, is_live from points), text body body_is form apart node_of once (drawn node) (After delay from) has)
      by_form (Sync from) has points earlier = (earlier, is_live from points)
      by_form (Side from) has points earlier = (earlier, is_live from points)
      by_form (Join first second) has points earlier =
          let rule = tail_of body body_is form apart node_of once (drawn node) (Join first second) has in (
            (earlier.0, is_live first points.0),
            (earlier.1, is_live second points.1),
            tail_is first points.0 ∙ (rule.0 ∙ sym (tail_is second points.1)),
            λ forgets. tail_is first points.0 ∙ (sym rule.1 ∙ not_tail (is_tail tail (drawn node)) refl forgets),
          )
      by_form (Merge first second) has points earlier = ((earlier.0, is_live first points.0), (earlier.1, is_live second points.1))

  tails : (node : ℕ) → graph.live node ≡ true → graph.tail node ≡ true → IsTailNode graph node (form node)
  tails node live of_tail = subst (IsTailNode graph node) (by node live).mapped (by_form (by node live).form_of (has node live) (points node live))
    where
      by_form : (form_of : Form Spot) → HasForm (drawn node) form_of → AllOf IsOne form_of → IsTailNode graph node (map_form node_of form_of)
      by_form Start is_begin points = absurd (let not_tail : is_tail tail (drawn node) ≡ false = ap (is_tail tail) is_begin in let impossible : true ≡ false = sym of_tail ∙ not_tail in cc)
      by_form (Same from) has points = tail_is from points ∙ (sym (tail_of body body_is form apart node_of once (drawn node) (Same from) has) ∙ of_tail)
      by_form (After delay from) has points = tt
      by_form (Sync from) has points = absurd (let impossible : true ≡ false = sym of_tail ∙ tail_of body body_is form apart node_of once (drawn node) (Sync from) has in cc)
      by_form (Side from) has points = absurd (let impossible : true ≡ false = sym of_tail ∙ tail_of body body_is form apart node_of once (drawn node) (Side from) has in cc)
      by_form (Join first second) has points =
          let rule = tail_of body body_is form apart node_of once (drawn node) (Join first second) has in
          let first_tail : is_tail tail first ≡ true = sym rule.1 ∙ of_tail in
          (tail_is first points.0 ∙ first_tail, tail_is second points.1 ∙ (sym rule.0 ∙ first_tail), ap not of_tail)
      by_form (Merge first second) has points =
          let rule = tail_of body body_is form apart node_of once (drawn node) (Merge first second) has of_tail in
          (tail_is first points.0 ∙ rule.0, tail_is second points.1 ∙ rule.1)

  pub is_turn_graph : IsOne (TermEnd (site (head body))) → IsTurnGraph graph
  is_turn_graph last = record {
    nodes = nodes;
    tails = tails;
    last_live = is_live (TermEnd (site (head body))) last;
    last_tail = tail_is (TermEnd (site (head body))) last ∙ term_is_tail tail body (tail_ends_are body body_is.numbered);
  }
