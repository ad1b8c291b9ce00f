-- Nodes that stand for the points of one turn give all that a machine needs of a graph.
use Rattle.std.proofs.Common.{ℕ, Bool}
use Rattle.order_rules.specs.Form.{Form, Same, Sync}
use Rattle.core_term.specs.Inputs.{Inputs}
use Rattle.core_term.specs.Term.{Term, site, head}
use Rattle.core_term.specs.Points.{Spot, TermBegin, Begin, End}
use Rattle.core_term.specs.Graph.{StandsOnce}
use Rattle.turn_pulses.specs.TurnGraph.{IsTurnGraph}
use Rattle.turn_pulses.specs.PulseMachine.{Seen}
use Rattle.turn_machine.specs.OneTurn.{IsTurnBody, turn_graph, SeesTurn, DrawsTurn}
use Rattle.turn_machine.proofs.TurnGraphs.{is_turn_graph}
use Rattle.turn_machine.proofs.Drawing.{draws, has_node}
use Rattle.turn_machine.proofs.Formed.{begin_formed, port_formed, own_sync, last_is_point}

module _ (body : Term) (body_is : IsTurnBody body) (form : ℕ → Form ℕ) (apart : ℕ → ℕ → Bool) (node_of : Spot → ℕ) (once : StandsOnce body form apart node_of) where
  pub graph_of_turn : IsTurnGraph (turn_graph body form node_of)
  graph_of_turn = is_turn_graph body body_is form apart node_of once (last_is_point body)

  pub turn_drawn : (inputs : Inputs) (registers : ℕ → ℕ → ℕ) (decision : ℕ → ℕ → Bool) (seen : Seen) → SeesTurn inputs decision body node_of seen → DrawsTurn inputs registers decision body form node_of seen
  turn_drawn inputs registers decision seen sees = record {
    draws = draws body body_is form apart node_of once inputs registers decision seen sees (last_is_point body);
    begins = λ place within. has_node body body_is form apart node_of once inputs registers decision (Begin place) (Same (TermBegin place), begin_formed body body_is.numbered place within);
    port_ends = λ scope term port stands on.
        let formed = port_formed port stands on in (
          has_node body body_is form apart node_of once inputs registers decision (End (site (head term))) (Sync (Begin (site (head term))), formed),
          own_sync body form apart node_of once (End (site (head term))) (Begin (site (head term))) formed,
        );
  }
