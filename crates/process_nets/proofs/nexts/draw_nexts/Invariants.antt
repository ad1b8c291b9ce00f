use Rattle.std.proofs.Common.{◌≡◌, length}
use Rattle.module_nets.specs.Netlist.{Extends}
use Rattle.process_nets.specs.Kept.{NextsDrawn}
use Rattle.process_nets.proofs.nexts.draw_nexts.Given as goal

abbrev pub invariant-loop-keep : goal.invariant-loop-keep
invariant-loop-keep l = record {
  extends : Extends l.fn.netlist l.netlist;
  count : length l.nexts.items ≡ l.keep-index;
  drawn : NextsDrawn l.netlist l.registers l.wires l.drafts l.keeps l.nexts.items l.keep-index;
}
