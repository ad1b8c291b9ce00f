-- Each digit that is read goes on with the number; where that passes 128 bits or the limit, so does the whole number.
use Rattle.std.proofs.Common.{◌^◌, sym, ◌∙◌, ap, rules}
use Rattle.std.specs.Str.{chars}
use Rattle.std.proofs.lemmas.Str.{IsUtf8-past_char}
use Rattle.anvil_lexer.specs.Characters.{value_after}
use Rattle.anvil_lexer.proofs.Digits.{value_step, value_past, product_past, sum_past, next_is}
use Rattle.anvil_lexer.proofs.Reading.{no_characters}
use Rattle.anvil_lexer.proofs.numeral.value.Goals as goal

pub returns-in_default-checked_mul : goal.returns-in_default-checked_mul
returns-in_default-checked_mul c =
    let kept = c.loop-digit.invariant in
    let counted = value_step c.args.base c.loop-digit.value _ _ _ _ kept.utf8 c.in-Some.ensures.steps.0 kept.counted in
    value_past c.args.base _ _ c.args.most (chars c.next.new.self.rest.now) counted
    (product_past (2 ^ 128) _ _ _ _ _ c.radix.ensures c.in_default-checked_mul.ensures c.ranges.most.fits)

pub returns-in_default-checked_add : goal.returns-in_default-checked_add
returns-in_default-checked_add c =
    let kept = c.loop-digit.invariant in
    let counted = value_step c.args.base c.loop-digit.value _ _ _ _ kept.utf8 c.in-Some.ensures.steps.0 kept.counted in
    value_past c.args.base _ _ c.args.most (chars c.next.new.self.rest.now) counted
    (sum_past
    (2 ^ 128) _ _ _ _ _ _ _ c.radix.ensures c.in-Some-checked_mul.ensures.1 c.digit_value.ensures.value c.in_default-checked_add.ensures c.ranges.most.fits)

pub returns-then-most-next : goal.returns-then-most-next
returns-then-most-next c =
    let kept = c.loop-digit.invariant in
    let counted = value_step c.args.base c.loop-digit.value _ _ _ _ kept.utf8 c.in-Some.ensures.steps.0 kept.counted in
    let next =
    next_is _ _ _ _ _ _ _ c.radix.ensures c.in-Some-checked_mul.ensures.1 c.digit_value.ensures.value c.in-Some-checked_add.ensures.1 in
    value_past c.args.base c.in-Some-checked_add.next _ c.args.most (chars c.next.new.self.rest.now)
    (rw next at counted) c.if-most-next.true

pub loop-digit-preserved : goal.loop-digit-preserved
loop-digit-preserved c =
    let kept = c.loop-digit.invariant in
    let counted = value_step c.args.base c.loop-digit.value _ _ _ _ kept.utf8 c.in-Some.ensures.steps.0 kept.counted in
    let next =
    next_is _ _ _ _ _ _ _ c.radix.ensures c.in-Some-checked_mul.ensures.1 c.digit_value.ensures.value c.in-Some-checked_add.ensures.1 in
    let h = c.if-most-next.false in
    record { counted = rw next at counted; within = search rules; utf8 = IsUtf8-past_char _ _ _ kept.utf8 c.in-Some.ensures.steps.0 }

pub returns : goal.returns
returns c =
    let kept = c.loop-digit.invariant in
    (sym (ap (value_after c.args.base c.loop-digit.value) (no_characters _ c.in_default.ensures.steps.0.0)) ∙ kept.counted, kept.within)
