use Rattle.std.proofs.Common.{◌≡◌, length}
use Rattle.module_nets.specs.Netlist.{Extends}
use Rattle.turn_nets.specs.Planned.{TailsSoFar}
use Rattle.turn_nets.proofs.tails.draw_tails.Given as goal

abbrev pub invariant-loop-node : goal.invariant-loop-node
invariant-loop-node l = record {
  extends : Extends l.fn.netlist l.netlist;
  count : length l.tails.items ≡ l._node;
  drawn : TailsSoFar l.netlist l.setting.nodes.now l.setting.states.now l.tails.items;
}
