-- A machine over nodes that stand for the points of one turn is a machine of the thread: the graph that is read off the nodes draws the
-- turn, and the node of each point is where the machine looks for it.
use Rattle.std.proofs.Common.{ℕ, arith}
use Rattle.core_term.specs.Inputs.{Inputs}
use Rattle.core_term.specs.Term.{Term, site, head}
use Rattle.core_term.specs.Points.{Begin}
use Rattle.run_laws.proofs.turn_points.Text.{stands_in}
use Rattle.turn_machine.specs.OneTurn.{IsTurnBody, DrawsTurn}
use Rattle.turn_machine.proofs.OneTurn.{graph_of_turn, turn_drawn}
use Rattle.process_machine.specs.ThreadMachine.{IsThreadMachine}
use Rattle.process_machine.specs.TurnMachine.{TurnNets, machine_of, IsTurnMachine}

module _ (inputs : Inputs) (registers : ℕ → ℕ → ℕ) (body : Term) (body_is : IsTurnBody body) (nets : TurnNets) (nets_are : IsTurnMachine inputs registers body nets) where
  drawn : DrawsTurn inputs registers nets.decision body nets.form nets.node_of nets.seen
  drawn = turn_drawn body body_is nets.form nets.apart nets.node_of nets_are.stands inputs registers nets.decision nets.seen nets_are.sees

  pub is_thread_machine : IsThreadMachine inputs registers body (machine_of body nets)
  is_thread_machine = record {
    draws = drawn.draws;
    graph_is = graph_of_turn body body_is nets.form nets.apart nets.node_of nets_are.stands;
    pulses_are = nets_are.pulses_are;
    begin_live = λ place below. (drawn.begins place below).live;
    begin_is = λ place below. (drawn.begins place below).together;
    port_ends = λ scope term port stands on.
        let end = drawn.port_ends scope term port stands on in
        record {
          live = (end.0).live;
          from = nets.node_of (Begin (site (head term)));
          is_sync = end.1;
          is_begin = (drawn.begins (site (head term)) (let there = stands_in stands 0 body_is.numbered in omega (arith, there.1))).together;
          wire = λ cycle. nets_are.sees.wires scope term port stands on cycle;
        };
    reads = nets_are.reads;
  }
