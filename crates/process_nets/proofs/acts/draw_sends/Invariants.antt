use Rattle.std.proofs.Common.{◌≡◌, ◌≤◌, ◌-◌, length}
use Rattle.module_nets.specs.Netlist.{Extends, Stands}
use Rattle.module_nets.specs.Shown.{Moment, IsMomentOf, shown}
use Rattle.process_nets.specs.Acts.{data_by}
use Rattle.process_nets.proofs.acts.draw_sends.Given as goal

abbrev pub invariant-loop-site : goal.invariant-loop-site
invariant-loop-site l = record {
  extends : Extends l.fn.netlist l.netlist;
  stands : Stands l.netlist l.sent;
  width : l.sent.width ≡ l.after.width;
  within : l.site ≤ length l.draft.plan.now.deeds.items;
  shows : (now : Moment) → IsMomentOf l.netlist now → shown now l.sent ≡ data_by now l.draft l.port (shown now l.after) l.site (length l.draft.plan.now.deeds.items - l.site);
}

abbrev pub decreases-loop-site : goal.decreases-loop-site
decreases-loop-site l = l.site
