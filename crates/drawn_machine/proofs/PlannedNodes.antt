-- The nodes of a plan can be drawn one after the other: each comes from earlier ones, and those of the tail from registers and one another.
use Rattle.std.proofs.Common.{◌≡◌, ℕ, ◌<◌, true, length, sym, ◌∙◌, subst, arith}
use Rattle.order_rules.specs.Form.{Form, Start, Same, After, Sync, Join, Side, Merge}
use Rattle.order_rules.specs.Entry.{IsEarlier}
use Rattle.core_term.specs.Term.{Term}
use Rattle.event_graph.specs.Forms.{form_at, apart_at}
use Rattle.event_points.specs.Nodes.{once}
use Rattle.event_points.proofs.Once.{stand}
use Rattle.turn_pulses.specs.TurnGraph.{IsTailNode, IsTurnGraph}
use Rattle.turn_machine.specs.OneTurn.{IsTurnBody}
use Rattle.turn_machine.proofs.OneTurn.{graph_of_turn}
use Rattle.machine_parts.specs.declared.plan.TurnPlan.{TurnPlan}
use Rattle.machine_parts.specs.Parts.{form_in, plan_at}
use Rattle.machine_parts.specs.Plans.{IsTurnPlan, graph_of, node_of}
use Rattle.machine_parts.specs.Nodes.{AreNodes, IsOfTail}

module _ (body : Term) (body_is : IsTurnBody body) (plan : TurnPlan) (is : IsTurnPlan body plan) where
  graph_is : IsTurnGraph (graph_of body)
  graph_is = graph_of_turn body body_is (form_at (once body)) (apart_at (once body)) (node_of body) (stand body body_is.numbered).stands

  tail_of : (node : ℕ) → node < length plan.nodes.items → (graph_of body).tail node ≡ true → (plan_at plan.nodes.items node).tail ≡ true
  tail_of node inside tail = is.tails node inside ∙ tail

  by_form : (node : ℕ) → node < length plan.nodes.items → (form : Form ℕ) → IsEarlier node form → IsTailNode (graph_of body) node form → IsOfTail plan.nodes.items form
  by_form node inside Start early tail = tail
  by_form node inside (Same from) early tail = tail_of from (omega (arith, early, inside)) tail
  by_form node inside (After delay from) early tail = tt
  by_form node inside (Sync from) early tail = tail
  by_form node inside (Join first second) early tail =
      (tail_of first (let less = early.0 in omega (arith, less, inside)) tail.0, tail_of second (let less = early.1 in omega (arith, less, inside)) tail.1)
  by_form node inside (Side from) early tail = tail
  by_form node inside (Merge first second) early tail =
      (tail_of first (let less = early.0 in omega (arith, less, inside)) tail.0, tail_of second (let less = early.1 in omega (arith, less, inside)) tail.1)

  early_of : (node : ℕ) → node < length plan.nodes.items → IsEarlier node (form_in plan.nodes.items node)
  early_of node inside = subst (λ form. IsEarlier node form) (sym (is.forms node inside)) ((stand body body_is.numbered).stands.earlier node)

  pub nodes_are : AreNodes plan.nodes.items
  nodes_are = record {
    earlier = early_of;
    tails = λ node inside tail.
        by_form node inside (form_in plan.nodes.items node) (early_of node inside)
        (subst (λ form. IsTailNode (graph_of body) node form) (sym (is.forms node inside))
        (graph_is.tails node (is.live node inside) (sym (is.tails node inside) ∙ tail)));
  }
