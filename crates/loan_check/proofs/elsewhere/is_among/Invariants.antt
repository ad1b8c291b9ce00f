-- None so far, so those that are left decide.
use Rattle.std.proofs.Common.{◌≡◌, drop}
use Rattle.loan_check.specs.Elsewhere.{is_among}
use Rattle.loan_check.proofs.elsewhere.is_among.Given as goal

abbrev pub invariant-loop-other : goal.invariant-loop-other
invariant-loop-other l = is_among l.register (drop l.other-index l.registers) ≡ is_among l.register l.registers
