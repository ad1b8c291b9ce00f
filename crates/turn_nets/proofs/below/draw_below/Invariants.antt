use Rattle.std.proofs.Common.{◌≡◌, ℕ, ◌<◌, ◌≤◌, length}
use Rattle.module_nets.specs.Netlist.{Extends}
use Rattle.pulse_nets.specs.Pulses.{begins, pulse_at}
use Rattle.machine_parts.specs.Nodes.{PulsesSoFar}
use Rattle.turn_nets.proofs.below.draw_below.Given as goal

abbrev pub invariant-loop-node : goal.invariant-loop-node
invariant-loop-node l = record {
  extends : Extends l.fn.netlist l.netlist;
  count : length l.pulses.items ≡ l._node;
  longer : length l.fn.pulses.items ≤ length l.pulses.items;
  kept : (node : ℕ) → node < length l.fn.pulses.items → pulse_at l.pulses.items node ≡ pulse_at l.fn.pulses.items node;
  so_far : PulsesSoFar l.netlist l.setting.nodes.now l.setting.states.now l.setting.wires.now l.decisions (begins l.begin) l.tails l.pulses.items;
}
