-- The machine of a thread over nodes that stand for the points of one turn of its body: all that a builder has to show.
use Rattle.std.specs.Prelude.{ℕ, Bool}
use Rattle.order_rules.specs.Form.{Form}
use Rattle.core_term.specs.Inputs.{Inputs}
use Rattle.core_term.specs.Term.{Term}
use Rattle.core_term.specs.Points.{Spot, Begin, End}
use Rattle.core_term.specs.Graph.{StandsOnce}
use Rattle.turn_pulses.specs.PulseMachine.{Seen, PulseMachine, IsPulseMachine}
use Rattle.turn_machine.specs.OneTurn.{IsTurnBody, point_of, turn_graph, SeesTurn}
use Rattle.process_machine.specs.ThreadMachine.{ThreadMachine, ReadsAgain, IsThreadMachine}

-- the forms of the nodes, which of them exclude each other, and the node of each point; what the machine sees, its
-- pulses, and the nets of the acts
pub record TurnNets : Type 0 where
  pub form : (node : ℕ) → Form ℕ
  pub apart : (node other : ℕ) → Bool
  pub node_of : Spot → ℕ
  pub seen : Seen
  pub pulses : PulseMachine
  pub value : (site cycle : ℕ) → ℕ
  pub decision : (site cycle : ℕ) → Bool
  pub side : (site cycle : ℕ) → Bool
  pub kept_side : (site cycle : ℕ) → Bool

abbrev pub machine_of : Term → TurnNets → ThreadMachine
machine_of body nets = record {
  graph = turn_graph body nets.form nets.node_of;
  seen = nets.seen;
  point = point_of body nets.form nets.node_of;
  pulses = nets.pulses;
  begin_node = λ place. nets.node_of (Begin place);
  end_node = λ place. nets.node_of (End place);
  value = nets.value;
  decision = nets.decision;
  side = nets.side;
  kept_side = nets.kept_side;
}

pub record IsTurnMachine (inputs : Inputs) (registers : ℕ → ℕ → ℕ) (body : Term) (nets : TurnNets) : Type 0 where
  pub stands : StandsOnce body nets.form nets.apart nets.node_of
  pub sees : SeesTurn inputs nets.decision body nets.node_of nets.seen
  pub pulses_are : IsPulseMachine (turn_graph body nets.form nets.node_of) nets.seen nets.pulses
  pub reads : ReadsAgain inputs registers body (λ place cycle. nets.pulses.pulse cycle (nets.node_of (Begin place)))
      nets.value nets.decision nets.side nets.kept_side

-- Such a machine is one of the thread.
abbrev pub TurnMachinesAreThreads : Type 0
TurnMachinesAreThreads =
    (inputs : Inputs) (registers : ℕ → ℕ → ℕ) (body : Term) → IsTurnBody body
    → (nets : TurnNets) → IsTurnMachine inputs registers body nets
    → IsThreadMachine inputs registers body (machine_of body nets)
