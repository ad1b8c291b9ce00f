-- The nodes stand for the points, and so each judgement goes over from the one to the other.
use Rattle.std.proofs.Common.{refl}
use Rattle.order_rules.proofs.Transfer.{to_nodes, from_nodes}
use Rattle.core_term.specs.Points.{Spot}
use Rattle.core_term.specs.Order.{Apart}
use Rattle.core_term.specs.Graph.{HasFormOnce}
use Rattle.event_points.specs.Table.{node_in}
use Rattle.event_points.specs.Nodes.{first_table}
use Rattle.event_points.proofs.Once.{stand}
use Rattle.event_cases.proofs.laws.one_turn_tells.Goals as goal

pub returns : goal.returns
returns c body numbered a b of_a of_b d =
    let stands = (stand body numbered).stands.stands in
    let node = node_in (first_table body) in (
      (λ k. to_nodes Spot _ (HasFormOnce body) _ (Apart body) _ node stands of_a of_b k),
      λ k. from_nodes Spot _ (HasFormOnce body) _ (Apart body) _ node stands k a b of_a of_b refl refl,
    )
