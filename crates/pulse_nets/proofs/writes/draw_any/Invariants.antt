use Rattle.std.proofs.Common.{◌≡◌}
use Rattle.module_nets.specs.Netlist.{Extends}
use Rattle.module_nets.specs.Shown.{Moment, IsMomentOf}
use Rattle.module_nets.specs.Bits.{IsBit, told}
use Rattle.turn_pulses.specs.Latest.{some_begin}
use Rattle.pulse_nets.specs.Writes.{bits_told}
use Rattle.pulse_nets.proofs.writes.draw_any.Given as goal

abbrev pub invariant-loop-bit : goal.invariant-loop-bit
invariant-loop-bit l = record {
  extends : Extends l.fn.netlist l.netlist;
  bit : IsBit l.netlist l.any;
  tells : (now : Moment) → IsMomentOf l.netlist now → told now l.any ≡ some_begin (bits_told now l.bits) l.bit-index now.cycle;
}
