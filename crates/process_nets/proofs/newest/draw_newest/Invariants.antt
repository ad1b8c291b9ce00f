use Rattle.std.proofs.Common.{◌≡◌, length}
use Rattle.module_nets.specs.Netlist.{Extends}
use Rattle.process_nets.specs.Newest.{AnyDrawn, EarliersDrawn, SitesNewest}
use Rattle.process_nets.proofs.newest.draw_newest.Given as goal

abbrev pub invariant-loop-site : goal.invariant-loop-site
invariant-loop-site l = record {
  extends : Extends l.fn.netlist l.netlist;
  any : AnyDrawn l.netlist l.plan l.pulses l.ports (length l.plan.deeds.items) l.begun.any.items;
  earlier : EarliersDrawn l.netlist l.plan l.pulses l.begun.earlier.items (length l.plan.deeds.items);
  count : length l.newest.items ≡ l.site;
  newest : SitesNewest l.netlist l.plan l.kept l.pulses l.newest.items l.site;
}
