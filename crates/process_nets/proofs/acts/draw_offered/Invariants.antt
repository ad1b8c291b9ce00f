use Rattle.std.proofs.Common.{◌≡◌, drop}
use Rattle.std.specs.Prelude.{◌||◌}
use Rattle.module_nets.specs.Netlist.{Extends}
use Rattle.module_nets.specs.Shown.{Moment, IsMomentOf}
use Rattle.module_nets.specs.Bits.{IsBit, told}
use Rattle.machine_parts.specs.Drafts.{port_offered}
use Rattle.process_nets.proofs.acts.draw_offered.Given as goal

abbrev pub invariant-loop-draft : goal.invariant-loop-draft
invariant-loop-draft l = record {
  extends : Extends l.fn.netlist l.netlist;
  bit : IsBit l.netlist l.any;
  tells : (now : Moment) → IsMomentOf l.netlist now → (told now l.any || port_offered now (drop l.draft-index l.drafts) l.port) ≡ port_offered now l.drafts l.port;
}
