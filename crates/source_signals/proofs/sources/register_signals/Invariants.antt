use Rattle.std.proofs.Common.{◌≡◌, length}
use Rattle.std.proofs.Math.ListN.{take}
use Rattle.source_signals.specs.Sources.{numbered, register_signal}
use Rattle.source_signals.proofs.sources.register_signals.Given as goal

abbrev pub invariant-loop-register : goal.invariant-loop-register
invariant-loop-register l = record {
  count : length l.signals.items ≡ l.register-index;
  drawn : l.signals.items ≡ numbered register_signal 0 (take l.register-index l.registers);
}
