use Rattle.std.proofs.Common.{◌≡◌, length, take}
use Rattle.machine_parts.specs.Frames.{source_keeps}
use Rattle.module_frame.proofs.frame.source_keeps.Given as goal

abbrev pub invariant-loop-register : goal.invariant-loop-register
invariant-loop-register l = record {
  same : l.keeps.items ≡ source_keeps 0 (take l._register-index l.registers);
  count : length l.keeps.items ≡ l._register-index;
}
