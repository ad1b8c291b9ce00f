use Rattle.std.proofs.Common.{◌+◌, ◌^◌, ◌-◌, ◌<◌, ◌≤◌, arith, refl, sym, ◌∙◌}
use Rattle.module_frame.proofs.DigitCounts.{at_start, doubled, one_more, still_few, stops}
use Rattle.module_frame.proofs.digits.digit_count.Goals as goal

pub loop-bound-init : goal.loop-bound-init
loop-bound-init c = record { some = omega arith; few = omega arith; power = refl; same = at_start c.args.number }

pub loop-bound-preserved : goal.loop-bound-preserved
loop-bound-preserved c =
    let count = c.loop-bound.digits in
    let power = c.loop-bound.invariant.power in
    let test = c.loop-bound-test.true in
    let number = c.from.ensures in
    let above : 2 ^ count ≤ c.args.number = omega (arith, power, test, number) in
    record {
      some = omega arith;
      few = still_few count c.args.number above c.ranges.number.fits;
      power = doubled count c.loop-bound.bound power;
      same = sym (one_more count c.args.number above) ∙ c.loop-bound.invariant.same;
    }

pub returns-clause-digits : goal.returns-clause-digits
returns-clause-digits c =
    let count = c.loop-bound.digits in
    let power = c.loop-bound.invariant.power in
    let test = c.loop-bound-test.false in
    let number = c.from.ensures in
    let below : c.args.number < 2 ^ count = omega (arith, power, test, number) in
    sym (stops count (c.args.number + 1 - count) c.args.number below) ∙ c.loop-bound.invariant.same
