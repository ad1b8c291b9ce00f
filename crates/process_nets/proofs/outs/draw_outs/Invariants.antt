use Rattle.std.proofs.Common.{◌≡◌, length}
use Rattle.module_nets.specs.Netlist.{Extends}
use Rattle.process_nets.specs.Outs.{PortsDrawn}
use Rattle.process_nets.proofs.outs.draw_outs.Given as goal

abbrev pub invariant-loop-port : goal.invariant-loop-port
invariant-loop-port l = record {
  extends : Extends l.fn.netlist l.netlist;
  count : length l.outs.items ≡ l.port;
  drawn : PortsDrawn l.netlist l.drafts l.ports l.outs.items l.port;
}
