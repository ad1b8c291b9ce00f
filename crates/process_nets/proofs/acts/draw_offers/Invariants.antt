use Rattle.std.proofs.Common.{◌≡◌}
use Rattle.std.specs.Prelude.{◌||◌}
use Rattle.module_nets.specs.Netlist.{Extends}
use Rattle.module_nets.specs.Shown.{Moment, IsMomentOf}
use Rattle.module_nets.specs.Bits.{IsBit, told}
use Rattle.process_nets.specs.Acts.{offered_by}
use Rattle.process_nets.proofs.acts.draw_offers.Given as goal

abbrev pub invariant-loop-site : goal.invariant-loop-site
invariant-loop-site l = record {
  extends : Extends l.fn.netlist l.netlist;
  bit : IsBit l.netlist l.any;
  tells : (now : Moment) → IsMomentOf l.netlist now → told now l.any ≡ (told now l.before || offered_by now l.draft l.port l.site);
}
