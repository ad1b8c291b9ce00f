use Rattle.std.proofs.Common.{◌≡◌, true, map, take}
use Rattle.std.specs.List.{list_all}
use Rattle.machine_parts.specs.Frames.{source_of}
use Rattle.module_frame.specs.Drafts.{is_kept_register}
use Rattle.module_frame.proofs.frame.sources_of.Given as goal

abbrev pub invariant-loop-register : goal.invariant-loop-register
invariant-loop-register l = record {
  same : l.made.items ≡ map source_of (take l.register-index l.registers);
  kept : list_all is_kept_register (take l.register-index l.registers) ≡ true;
}
