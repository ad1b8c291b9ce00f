-- What is drawn of a thread stays drawn while the netlist grows.
use Rattle.std.proofs.Common.{List}
use Rattle.core_term.specs.Term.{Term}
use Rattle.sv_tree.specs.Module.{Module}
use Rattle.module_nets.specs.declared.signal.Signal.{Signal}
use Rattle.module_nets.specs.Netlist.{Extends}
use Rattle.module_nets.proofs.Growing.{of_later, stands_later}
use Rattle.module_nets.proofs.BitsTold.{bit_later}
use Rattle.pulse_nets.specs.declared.forms.Pulse.{Pulse}
use Rattle.machine_parts.specs.declared.plan.TurnPlan.{TurnPlan}
use Rattle.machine_parts.specs.declared.frame.ThreadStates.{ThreadStates}
use Rattle.machine_parts.specs.declared.thread.ThreadNets.{ThreadNets}
use Rattle.machine_parts.specs.Threads.{ThreadDrawn}
use Rattle.machine_parts.specs.Drafts.{NewestDrawn}

module _ (old new : Module) (e : Extends old new) where
  pub thread_later : (registers received wires : List Signal) (body : Term) (plan : TurnPlan) (states : ThreadStates) (nets : ThreadNets)
      → ThreadDrawn old registers received wires body plan states nets → ThreadDrawn new registers received wires body plan states nets
  thread_later registers received wires body plan states nets is = record {
    begin = bit_later old new _ e is.begin;
    begins = λ now of. is.begins now (of_later old new now e of);
    pulse_count = is.pulse_count;
    pulses = λ node inside.
        let drawn = is.pulses node inside in
        record {
          pulse = bit_later old new _ e drawn.pulse;
          known = bit_later old new _ e drawn.known;
          tells = λ now of. drawn.tells now (of_later old new now e of);
          knows = λ now of. drawn.knows now (of_later old new now e of);
        };
    value_count = is.value_count;
    decision_count = is.decision_count;
    side_count = is.side_count;
    sides = λ place inside. let drawn = is.sides place inside in (bit_later old new _ e drawn.0, λ now of. drawn.1 now (of_later old new now e of));
    values = λ scope term used stands uses.
        let drawn = is.values scope term used stands uses in
        record { stands = stands_later old new _ e drawn.stands; width = drawn.width; shows = λ now of. drawn.shows now (of_later old new now e of) };
    decisions = is.decisions;
    undecided = is.undecided;
    decision_bits = λ place inside. bit_later old new _ e (is.decision_bits place inside);
  }

  pub newest_later : (plan : TurnPlan) (kept : List Signal) (pulses : List Pulse) (newest : List Signal) → NewestDrawn old plan kept pulses newest → NewestDrawn new plan kept pulses newest
  newest_later plan kept pulses newest is = record {
    count = is.count;
    bits = λ site inside. bit_later old new _ e (is.bits site inside);
    sends = λ site port sends now of. is.sends site port sends now (of_later old new now e of);
    others = is.others;
  }
