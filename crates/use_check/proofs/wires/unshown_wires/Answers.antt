-- One use more: its record is added where a claim is not shown.
use Rattle.std.proofs.Common.{sym, ap, ◌∙◌, ◌+◌, ◌++◌, ◌∷◌, [], arith, drop}
use Rattle.std.proofs.lemmas.List.{get_or_default}
use Rattle.demand_checks.specs.Judge.{process_at}
use Rattle.demand_checks.specs.Rests.{pair_of}
use Rattle.demand_checks.specs.Unshown.{unshown}
use Rattle.demand_checks.proofs.Loops.{pass_shown, push_unshown, all_passed}
use Rattle.use_check.specs.Wires.{wire_claims}
use Rattle.use_check.proofs.wires.unshown_wires.Goals as goal
use Rattle.use_check.proofs.wires.unshown_wires.Goals.{then-not-wire_holds+in_ok-push, else-not-wire_holds}

pub loop-rest-preserved : goal.loop-rest-preserved
loop-rest-preserved c = λ answers tell.
    let claims_of = wire_claims (process_at c.args.judge.now) c.args.judge.now.deeds.items in
    let at = get_or_default c.args.rests.now c.loop-rest.rest-index _ _ c.loop-rest-test.true in
    let before = c.loop-rest.invariant answers tell in
    elim c.if-not-wire_holds.branch [
      | then-not-wire_holds+in_ok-push w ↦
          ap (λ pairs. pairs.items ++ unshown pair_of claims_of answers (drop (c.loop-rest.rest-index + 1) c.args.rests.now)) w.pairs-is
          ∙ (ap (λ pairs. pairs ++ unshown pair_of claims_of answers (drop (c.loop-rest.rest-index + 1) c.args.rests.now)) (w.in_ok-push.ensures.items ∙ ap (λ pair. c.loop-rest.pairs.items ++ pair ∷ []) w.pair.ensures)
          ∙ push_unshown pair_of claims_of answers c.args.rests.now c.loop-rest.rest-index (c.loop-rest.rest-index + 1) _ (omega arith) c.loop-rest-test.true at c.loop-rest.pairs.items _ before
          (sym (w.if-not-wire_holds.ensures answers tell)))
      | else-not-wire_holds w ↦
          ap (λ pairs. pairs.items ++ unshown pair_of claims_of answers (drop (c.loop-rest.rest-index + 1) c.args.rests.now)) w.pairs-is
          ∙ pass_shown pair_of claims_of answers c.args.rests.now c.loop-rest.rest-index (c.loop-rest.rest-index + 1) _ (omega arith) c.loop-rest-test.true at c.loop-rest.pairs.items _ before
          (sym (w.if-not-wire_holds.ensures answers tell))
    ]

pub returns : goal.returns
returns c = λ answers tell.
    all_passed pair_of (wire_claims (process_at c.args.judge.now) c.args.judge.now.deeds.items) answers c.args.rests.now c.loop-rest.rest-index _ _ c.loop-rest-test.false (c.loop-rest.invariant answers tell)
