-- The nodes of the tail of the graph of one turn.
use Rattle.std.proofs.Common.{◌≡◌, ℕ, ◌<◌, true, length}
use Rattle.core_term.specs.Term.{Term}
use Rattle.core_term.specs.Graph.{StandsOnce}
use Rattle.event_graph.specs.Forms.{form_at, apart_at}
use Rattle.event_points.specs.Owned.{end_of}
use Rattle.event_points.specs.Nodes.{once}
use Rattle.event_points.proofs.Once.{stand, inside_of}
use Rattle.turn_machine.specs.OneTurn.{IsTurnBody}
use Rattle.turn_machine.specs.Reached.{IsReached}
use Rattle.turn_machine.proofs.Formed.{last_is_point}
use Rattle.turn_machine.proofs.Reaching.{tail_reached, reached_tail}
use Rattle.turn_nodes.specs.Laws.{node_of, graph_of}
use Rattle.turn_nodes.proofs.Drawn.{live}

module _ (body : Term) (body_is : IsTurnBody body) where
  stands : StandsOnce body (form_at (once body)) (apart_at (once body)) (node_of body)
  stands = (stand body body_is.numbered).stands

  pub last_inside : node_of body (end_of body) < length (once body)
  last_inside = let point = last_is_point body in inside_of body body_is.numbered (end_of body) point.0 point.1

  pub of_tail : (node : ℕ) → node < length (once body) → (graph_of body).tail node ≡ true → IsReached (form_at (once body)) (node_of body (end_of body)) node
  of_tail node inside tail = tail_reached body body_is (form_at (once body)) (apart_at (once body)) (node_of body) stands node (live body body_is.numbered node inside) tail

  pub to_tail : (node : ℕ) → IsReached (form_at (once body)) (node_of body (end_of body)) node → (graph_of body).tail node ≡ true
  to_tail node reached = (reached_tail body body_is (form_at (once body)) (apart_at (once body)) (node_of body) stands node reached).1
