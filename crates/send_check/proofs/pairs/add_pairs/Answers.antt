-- The next pair is settled: it is added, or all its demands hold.
use Rattle.std.proofs.Common.{◌≤◌, ◌∙◌, ◌+◌, Bool, ap, sym, subst, arith, length, List}
use Rattle.demand_checks.specs.declared.place.Pair.{Pair}
use Rattle.send_check.specs.Settled.{AreFoundTo, Settles}
use Rattle.send_check.proofs.FoundTo.{next_broken, next_kept, row_done}
use Rattle.send_check.proofs.pairs.add_pairs.Goals.{then-breaks+in_ok-push, else-breaks}
use Rattle.send_check.proofs.pairs.add_pairs.Goals as goal

pub loop-second-preserved : goal.loop-second-preserved
loop-second-preserved c =
    let judge = c.args.judge.now in
    let first = c.args.first in
    let second = c.loop-second.second in
    let old = c.loop-second.pairs.items in
    let before = c.loop-second.invariant in
    let Settled : Bool → Type 0 = λ result. Settles judge c.args.rule first second result in
    elim c.if-breaks.branch [
      | then-breaks+in_ok-push w ↦
          next_broken judge c.args.rule first second old c.if-breaks.pairs.items before (subst Settled w.if-breaks.true c.breaks.ensures) (ap (λ v. v.items) w.pairs-is ∙ w.in_ok-push.ensures.items)
      | else-breaks w ↦
          let Found : List Pair → Type 0 = λ pairs. AreFoundTo judge c.args.rule first (second + 1) pairs in
          subst Found (ap (λ v. v.items) (sym w.pairs-is)) (next_kept judge c.args.rule first second old before (subst Settled w.if-breaks.false c.breaks.ensures))
    ]

pub returns : goal.returns
returns c =
    let judge = c.args.judge.now in
    let count = c.len-second-end.ensures in
    let whole = judge.deeds.ok.0 in
    let done = c.loop-second-test.false in
    let past : length judge.deeds.items ≤ c.loop-second.second = omega arith in
    row_done judge c.requires.judge c.args.rule c.requires.rule c.args.first c.loop-second.second c.loop-second.pairs.items past c.loop-second.invariant
