use Rattle.std.proofs.Common.{◌≡◌, length}
use Rattle.module_nets.specs.Netlist.{Extends}
use Rattle.fsm_builder.specs.Drafts.{DraftsDrawn}
use Rattle.fsm_builder.proofs.threads.draw_threads.Given as goal

abbrev pub invariant-loop-number : goal.invariant-loop-number
invariant-loop-number l = record {
  extends : Extends l.fn.netlist l.netlist;
  count : length l.drafts.items ≡ l.number;
  drawn : DraftsDrawn l.netlist l.sources l.threads l.plans l.states l.drafts.items;
}
