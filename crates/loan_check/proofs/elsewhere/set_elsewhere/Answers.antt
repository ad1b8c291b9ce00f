use Rattle.std.proofs.Common.{arith}
use Rattle.loan_check.proofs.OtherSets.{all_threads}
use Rattle.loan_check.proofs.elsewhere.set_elsewhere.Goals as goal

pub returns : goal.returns
returns c = all_threads c.args.proc.now c.args.thread c.loop-index.index _ (omega (arith, c.len-index-end.ensures, c.loop-index-test.false)) c.loop-index.invariant
