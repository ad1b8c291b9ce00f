use Rattle.std.proofs.Common.{◌≡◌, ◌+◌, ◌-◌, ◌^◌, ◌≤◌}
use Rattle.machine_parts.specs.Digits.{digits, digits_from}
use Rattle.module_frame.proofs.digits.digit_count.Given as goal

abbrev pub invariant-loop-bound : goal.invariant-loop-bound
invariant-loop-bound l = record {
  some : 1 ≤ l.digits;
  few : l.digits ≤ 32;
  power : l.bound ≡ 2 ^ l.digits;
  same : digits_from l.digits (l.number + 1 - l.digits) l.number ≡ digits l.number;
}

abbrev pub decreases-loop-bound : goal.decreases-loop-bound
decreases-loop-bound l = 32 - l.digits
