-- The pairs are the records of the rule.
use Rattle.demand_checks.specs.Judge.{process_at, body_at}
use Rattle.send_check.proofs.check.add_rule.Goals as goal

pub returns : goal.returns
returns c = λ rules violations earlier.
    let judge = c.args.judge.now in
    c.in_ok-list_rule.ensures (process_at judge) judge.number (body_at judge) rules violations c.in_ok-pairs.ensures earlier
