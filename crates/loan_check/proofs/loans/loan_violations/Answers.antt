-- The records of V7, and then those of V8.
use Rattle.loan_check.proofs.BothRules.{both_listed}
use Rattle.loan_check.proofs.loans.loan_violations.Goals as goal

pub returns : goal.returns
returns c =
    both_listed c.in_ok-judge.judge c.in_ok-judge.ensures.judge c.args.proc.now c.args.thread c.in_ok-judge.ensures.process c.in_ok-judge.ensures.thread
    c.in_ok-rests.rests.items _ _ c.in_ok-rests.ensures c.deref-3.ensures.value c.deref-4.ensures.value
    c.in_ok-others.others.items _ c.in_ok-others.ensures c.deref-2.ensures.value
    c.in_ok-reads.reads.items c.in_ok-choices.choices.items c.in_ok-reads.ensures c.in_ok-choices.ensures
    _ _ _ c.new-violations.ensures.items c.in_ok-list_rule.ensures c.in_ok-list_rule-2.ensures
