use Rattle.std.proofs.Common.{◌≡◌, drop}
use Rattle.module_nets.specs.Netlist.{Extends, Stands}
use Rattle.module_nets.specs.Shown.{Moment, IsMomentOf, shown}
use Rattle.machine_parts.specs.Drafts.{written_now}
use Rattle.process_nets.proofs.acts.draw_written.Given as goal

abbrev pub invariant-loop-draft : goal.invariant-loop-draft
invariant-loop-draft l = record {
  extends : Extends l.fn.netlist l.netlist;
  stands : Stands l.netlist l.taken;
  width : l.taken.width ≡ l.shows.width;
  shows : (now : Moment) → IsMomentOf l.netlist now → written_now now (drop l.draft-index l.drafts) l.register (shown now l.taken) ≡ written_now now l.drafts l.register (shown now l.shows);
}
