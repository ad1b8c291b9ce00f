-- One end more: all hold where those before it do and it does.
use Rattle.std.proofs.Common.{◌≡◌, map, arith, ap, ◌∙◌, ◌&&◌}
use Rattle.core_term.specs.declared.process.CoreLife.TheVariants as life
use Rattle.exchanges.proofs.Ends.{hold_more, bounded_more}
use Rattle.exchanges.proofs.latest.all_ends_hold.Goals as goal

pub loop-end-preserved : goal.loop-end-preserved
loop-end-preserved c =
    let goes_on = c.end_holds-goes_on in
    record {
      holds = ap (λ b. c.loop-end.holds && b) goes_on.ensures.holds ∙ hold_more c.args.exchanged.now c.args.age c.args.ends.now c.loop-end.end-index _ (life.Cycles 0) c.loop-end.holds (omega arith) c.loop-end-test.true c.loop-end.invariant.holds;
      bounded = bounded_more c.args.ends.now c.loop-end.end-index _ (life.Cycles 0) (omega arith) c.loop-end-test.true goes_on.ensures.bounded c.loop-end.invariant.bounded;
    }
