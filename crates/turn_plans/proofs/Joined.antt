-- The parts of a plan, as they are read off an elaboration, joined.
use Rattle.std.proofs.Common.{◌≡◌, ℕ, ◌<◌, ◌≤◌, arith, sym, ◌∙◌, ap, subst, Bool, List, length, Some}
use Rattle.core_term.specs.declared.term.CoreTerm.{CoreTerm}
use Rattle.core_term.specs.Widths.{Widths}
use Rattle.core_term.specs.View.{term_of}
use Rattle.core_term.specs.Body.{IsBody}
use Rattle.act_deeds.specs.declared.deed.Deed.{Deed}
use Rattle.act_deeds.specs.Deeds.{AreDeeds}
use Rattle.event_graph.specs.Event as seen
use Rattle.event_points.specs.Owned.{end_of}
use Rattle.event_points.specs.Table.{node_in}
use Rattle.event_points.specs.Nodes.{once, first_table}
use Rattle.elaborator.specs.declared.elab.Elab.{Elab}
use Rattle.elaborator.specs.declared.points.Points.{Points}
use Rattle.elaborator.specs.Seen.{body_in, body_at}
use Rattle.elaborator.specs.Turns.{IsOnce}
use Rattle.turn_machine.specs.OneTurn.{IsTurnBody}
use Rattle.pulse_nets.specs.declared.node.Shape.{Shape}
use Rattle.machine_parts.specs.declared.plan.Event.{Event}
use Rattle.machine_parts.specs.declared.plan.NodePlan.{NodePlan}
use Rattle.machine_parts.specs.declared.plan.TurnPlan.{TurnPlan}
use Rattle.machine_parts.specs.Plans.{IsTurnPlan}
use Rattle.turn_plans.specs.Read.{AreShapes, AreSides, AreEarlier, AreTails, AreNodesOf, AreBegins, AreEnds}
use Rattle.turn_plans.specs.Wires.{AreEvents, EndsAreApart}
use Rattle.turn_plans.proofs.NoWidths.{no_widths}
use Rattle.turn_nodes.proofs.Reached.{last_inside}
use Rattle.turn_plans.proofs.Planned.{shapes_earlier, ends_are_apart, planned}

-- the nodes are those of the same lists
pub nodes_same : (shapes other_shapes : List Shape) (tails other_tails : List Bool) (events other_events : List Event) (nodes : List NodePlan) → shapes ≡ other_shapes → tails ≡ other_tails → events ≡ other_events
    → AreNodesOf shapes tails events nodes → AreNodesOf other_shapes other_tails other_events nodes
nodes_same shapes other_shapes tails other_tails events other_events nodes same_shapes same_tails same_events are =
    subst (λ e. AreNodesOf other_shapes other_tails e nodes) same_events (subst (λ t. AreNodesOf other_shapes t events nodes) same_tails (subst (λ s. AreNodesOf s tails events nodes) same_shapes are))

pub events_same : (graph : List seen.Event) (deeds other_deeds : List Deed) (ends other_ends : List ℕ) (events : List Event) → deeds ≡ other_deeds → ends ≡ other_ends → AreEvents graph deeds ends events → AreEvents graph other_deeds other_ends events
events_same graph deeds other_deeds ends other_ends events same_deeds same_ends are = subst (λ e. AreEvents graph other_deeds e events) same_ends (subst (λ d. AreEvents graph d ends events) same_deeds are)

module _ (core : CoreTerm) (is : IsBody core) (elab : Elab) (once_is : (widths : Widths) → IsOnce (term_of widths core) elab) where
  turn_body : (widths : Widths) → IsTurnBody (term_of widths core)
  turn_body widths = record { numbered = is.numbered widths; tail = is.tail widths; cycles = is.cycles widths }

  last_is : (widths : Widths) (last : Points) → body_in elab 1 ≡ Some last → last.end ≡ node_in (first_table (term_of widths core)) (end_of (term_of widths core))
  last_is widths last read =
      let both : Some last ≡ Some (body_at (node_in (first_table (term_of widths core))) (term_of widths core)) = sym read ∙ (once_is widths).body in
      let same : last ≡ body_at (node_in (first_table (term_of widths core))) (term_of widths core) = cc in
      ap (λ (points : Points). points.end) same

  shapes_once : (widths : Widths) (shapes : List Shape) → AreShapes elab.graph shapes → AreShapes (once (term_of widths core)) shapes
  shapes_once widths shapes are = subst (λ (graph : List seen.Event). AreShapes graph shapes) (once_is widths).graph are

  sides_once : (widths : Widths) (events : List Event) → AreSides elab.graph events → AreSides (once (term_of widths core)) events
  sides_once widths events are = subst (λ (graph : List seen.Event). AreSides graph events) (once_is widths).graph are

  pub last_drawn : (last : Points) → body_in elab 1 ≡ Some last → (shapes : List Shape) → AreShapes elab.graph shapes → last.end < length shapes
  last_drawn last read shapes are =
      let count = (shapes_once no_widths shapes are).count in
      let at = last_is no_widths last read in
      let inside = last_inside (term_of no_widths core) (turn_body no_widths) in
      omega arith

  pub earlier : (shapes : List Shape) → AreShapes elab.graph shapes → AreEarlier shapes
  earlier shapes are = shapes_earlier (term_of no_widths core) (turn_body no_widths) shapes (shapes_once no_widths shapes are)

  pub apart : (deeds : List Deed) → ((widths : Widths) → AreDeeds (term_of widths core) deeds) → (ends : List ℕ) → ((widths : Widths) → AreEnds (term_of widths core) ends) → EndsAreApart deeds ends (length elab.graph)
  apart deeds deeds_are ends ends_are =
      ends_are_apart (term_of no_widths core) (turn_body no_widths) deeds (deeds_are no_widths) ends (ends_are no_widths) (length elab.graph) (ap (λ (graph : List seen.Event). length graph) (once_is no_widths).graph)

  pub joined : (plan : TurnPlan) → length plan.deeds.items ≤ 512 → ((widths : Widths) → AreDeeds (term_of widths core) plan.deeds.items)
      → ((widths : Widths) → AreBegins (term_of widths core) plan.begins.items) → ((widths : Widths) → AreEnds (term_of widths core) plan.ends.items)
      → (last : Points) → body_in elab 1 ≡ Some last → plan.last ≡ last.end
      → (shapes : List Shape) → AreShapes elab.graph shapes → (tails : List Bool) → AreTails shapes plan.last tails
      → (events : List Event) → AreEvents elab.graph plan.deeds.items plan.ends.items events → AreNodesOf shapes tails events plan.nodes.items
      → (widths : Widths) → IsTurnPlan (term_of widths core) plan
  joined plan few deeds_are begins_are ends_are last read at_last shapes shapes_are tails tails_are events events_are nodes_are widths =
      planned (term_of widths core) (turn_body widths) (let count = (deeds_are widths).count in omega arith) plan (deeds_are widths) (begins_are widths) (ends_are widths) (at_last ∙ last_is widths last read)
      shapes (shapes_once widths shapes shapes_are) tails tails_are events_are.sides events (sides_once widths events_are.sides events_are.sides_are) events_are.marked nodes_are
