-- The registers of the threads so far.
use Rattle.loan_check.specs.Elsewhere.{AreElsewhereTo}
use Rattle.loan_check.proofs.elsewhere.set_elsewhere.Given as goal

abbrev pub invariant-loop-index : goal.invariant-loop-index
invariant-loop-index l = AreElsewhereTo l.index l.proc l.thread l.registers.items
