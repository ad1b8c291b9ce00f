-- The records of V2, and then those of V6.
use Rattle.use_check.proofs.BothRules.{both_listed}
use Rattle.use_check.proofs.uses.use_violations.Goals as goal

pub returns : goal.returns
returns c =
    both_listed c.in_ok-judge.judge c.in_ok-judge.ensures.judge c.args.proc.now c.args.thread c.in_ok-judge.ensures.process c.in_ok-judge.ensures.thread
    c.in_ok-reads.reads.items _ c.in_ok-reads.ensures c.deref-2.ensures.value c.in_ok-rests.rests.items _ c.in_ok-rests.ensures c.deref-3.ensures.value
    c.in_ok-made.made.items c.in_ok-wires.wires.items c.in_ok-made.ensures c.in_ok-wires.ensures
    _ _ _ c.new-violations.ensures.items c.in_ok-list_rule.ensures c.in_ok-list_rule-2.ensures
