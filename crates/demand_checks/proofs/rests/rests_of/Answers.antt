use Rattle.std.proofs.Common.{arith}
use Rattle.core_term.specs.View.{term_of}
use Rattle.demand_checks.proofs.RestsRead.{one_more, all_there}
use Rattle.demand_checks.proofs.rests.rests_of.Goals as goal

pub loop-user-preserved : goal.loop-user-preserved
loop-user-preserved c = λ widths.
    one_more (term_of widths c.args.thread.now) c.loop-user.user _ _ (c.body-body.ensures.body.numbered widths) (let known = c.count-user-end.ensures.size widths in omega (arith, known, c.loop-user-test.true)) (c.use_atoms.ensures widths)
    (c.loop-user.invariant widths) _ c.in_ok-add_rests.ensures

pub returns : goal.returns
returns c = λ widths. all_there (term_of widths c.args.thread.now) c.loop-user.user _ (c.body-body.ensures.body.numbered widths) (let known = c.count-user-end.ensures.size widths in omega (arith, known, c.loop-user-test.false)) (c.loop-user.invariant widths)
