use Rattle.std.proofs.Common.{◌≡◌, true, map, take}
use Rattle.std.specs.List.{list_all}
use Rattle.machine_parts.specs.Frames.{port_of}
use Rattle.module_frame.specs.Drafts.{is_kept_port}
use Rattle.module_frame.proofs.frame.ports_of.Given as goal

abbrev pub invariant-loop-port : goal.invariant-loop-port
invariant-loop-port l = record {
  same : l.made.items ≡ map port_of (take l.port-index l.ports);
  kept : list_all is_kept_port (take l.port-index l.ports) ≡ true;
}
