use Rattle.std.proofs.Common.{◌≡◌, ◌≤◌, length, drop}
use Rattle.module_nets.specs.Netlist.{Extends, Stands}
use Rattle.module_nets.specs.Shown.{Moment, IsMomentOf, shown}
use Rattle.machine_parts.specs.Drafts.{data_now}
use Rattle.process_nets.proofs.acts.draw_data.Given as goal

abbrev pub invariant-loop-thread : goal.invariant-loop-thread
invariant-loop-thread l = record {
  extends : Extends l.fn.netlist l.netlist;
  stands : Stands l.netlist l.sent;
  width : l.sent.width ≡ l.none.width;
  within : l.thread ≤ length l.drafts;
  shows : (now : Moment) → IsMomentOf l.netlist now → shown now l.sent ≡ data_now now (drop l.thread l.drafts) l.port;
}

abbrev pub decreases-loop-thread : goal.decreases-loop-thread
decreases-loop-thread l = l.thread
