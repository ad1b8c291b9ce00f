use Rattle.std.proofs.Common.{◌≡◌, length}
use Rattle.module_nets.specs.Netlist.{Extends}
use Rattle.process_nets.specs.Newest.{AnyDrawn, EarliersDrawn}
use Rattle.process_nets.proofs.newest.draw_begun.Given as goal

abbrev pub invariant-loop-site : goal.invariant-loop-site
invariant-loop-site l = record {
  extends : Extends l.fn.netlist l.netlist;
  any : AnyDrawn l.netlist l.plan l.pulses l.ports l.site l.any.items;
  count : length l.earlier.items ≡ l.site;
  earlier : EarliersDrawn l.netlist l.plan l.pulses l.earlier.items l.site;
}
