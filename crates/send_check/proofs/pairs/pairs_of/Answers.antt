-- Each site was the first one.
use Rattle.std.proofs.Common.{◌≤◌, arith, length}
use Rattle.send_check.proofs.FoundTo.{all_done}
use Rattle.send_check.proofs.pairs.pairs_of.Goals as goal

pub returns : goal.returns
returns c =
    let judge = c.args.judge.now in
    let count = c.len-first-end.ensures in
    let whole = judge.deeds.ok.0 in
    let done = c.loop-first-test.false in
    let past : length judge.deeds.items ≤ c.loop-first.first = omega arith in
    all_done judge c.requires.judge c.args.rule c.requires.rule c.loop-first.first c.loop-first.pairs.items past c.loop-first.invariant
