use Rattle.std.proofs.Common.{◌≡◌, length}
use Rattle.std.proofs.Math.ListN.{take}
use Rattle.source_signals.specs.Sources.{numbered, wire_signal}
use Rattle.source_signals.proofs.sources.wire_signals.Given as goal

abbrev pub invariant-loop-port : goal.invariant-loop-port
invariant-loop-port l = record {
  count : length l.signals.items ≡ l.port-index;
  drawn : l.signals.items ≡ numbered wire_signal 0 (take l.port-index l.ports);
}
