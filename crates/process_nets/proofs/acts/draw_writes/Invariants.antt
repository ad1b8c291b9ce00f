use Rattle.std.proofs.Common.{◌≡◌}
use Rattle.module_nets.specs.Netlist.{Extends, Stands}
use Rattle.module_nets.specs.Shown.{Moment, IsMomentOf, shown}
use Rattle.process_nets.specs.Acts.{written_by}
use Rattle.process_nets.proofs.acts.draw_writes.Given as goal

abbrev pub invariant-loop-site : goal.invariant-loop-site
invariant-loop-site l = record {
  extends : Extends l.fn.netlist l.netlist;
  stands : Stands l.netlist l.taken;
  width : l.taken.width ≡ l.before.width;
  shows : (now : Moment) → IsMomentOf l.netlist now → shown now l.taken ≡ written_by now l.draft l.register (shown now l.before) l.site;
}
