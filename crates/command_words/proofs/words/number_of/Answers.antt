-- The number is the word, or it is not and the next is looked at.
use Rattle.std.proofs.Common.{◌≡◌, ◌∙◌, ◌+◌, ◌-◌, suc, ap, refl, sym, arith, true, false}
use Rattle.std.specs.Prelude.{bytes_eq}
use Rattle.std.specs.Fmt.{decimal}
use Rattle.command_words.specs.Form.{number_among, number_of}
use Rattle.command_words.proofs.Numbers.{number_here, number_next}
use Rattle.command_words.proofs.words.number_of.Goals as goal

pub returns-then-eq : goal.returns-then-eq
returns-then-eq c =
    let number = c.loop-number.number in
    let word = c.args.word.now in
    let left : 65 - number ≡ suc (64 - number) = omega arith in
    let same : bytes_eq (decimal number) word ≡ true = sym (ap (λ text. bytes_eq text word) (c.as_bytes.ensures.value ∙ c.format.ensures.text)) ∙ (sym c.eq.ensures ∙ c.if-eq.true) in
    sym (c.loop-number.invariant ∙ (ap (λ n. number_among number n word) left ∙ number_here number (64 - number) word same))

pub loop-number-preserved : goal.loop-number-preserved
loop-number-preserved c =
    let number = c.loop-number.number in
    let word = c.args.word.now in
    let left : 65 - number ≡ suc (65 - (number + 1)) = omega arith in
    let differs : bytes_eq (decimal number) word ≡ false = sym (ap (λ text. bytes_eq text word) (c.as_bytes.ensures.value ∙ c.format.ensures.text)) ∙ (sym c.eq.ensures ∙ c.if-eq.false) in
    c.loop-number.invariant ∙ (ap (λ n. number_among number n word) left ∙ number_next number (65 - (number + 1)) word differs)

pub loop-number-init : goal.loop-number-init
unfolding number_of
loop-number-init c = refl
