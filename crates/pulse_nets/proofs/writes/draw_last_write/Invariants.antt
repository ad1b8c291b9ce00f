use Rattle.std.proofs.Common.{◌≡◌}
use Rattle.module_nets.specs.Netlist.{Extends, Stands}
use Rattle.module_nets.specs.Shown.{Moment, IsMomentOf, shown}
use Rattle.turn_pulses.specs.Latest.{last_write}
use Rattle.pulse_nets.specs.Writes.{begun_told, value_shown}
use Rattle.pulse_nets.proofs.writes.draw_last_write.Given as goal

abbrev pub invariant-loop-write : goal.invariant-loop-write
invariant-loop-write l = record {
  extends : Extends l.fn.netlist l.netlist;
  stands : Stands l.netlist l.taken;
  width : l.taken.width ≡ l.register.width;
  shows : (now : Moment) → IsMomentOf l.netlist now → shown now l.taken ≡ last_write (begun_told now l.writes) (value_shown now l.writes) (shown now l.register) l.write-index;
}
