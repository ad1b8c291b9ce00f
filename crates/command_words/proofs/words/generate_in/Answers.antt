-- The number stands for the word that was read.
use Rattle.std.proofs.Common.{◌≡◌, ◌∙◌, arith, ap, sym, refl, codes, Some}
use Rattle.clap.specs.Words.{first_of, found_of, rows_of}
use Rattle.command_words.specs.Form.{number_of}
use Rattle.command_words.proofs.Numbers.{number_of_is}
use Rattle.command_words.proofs.words.generate_in.Goals as goal

pub returns-clause-form : goal.returns-clause-form
returns-clause-form c =
    let word = c.in_ok-word.word.now in
    let count = c.in_ok-count.count in
    let found : Some word ≡ first_of (codes "NUMBER") (rows_of (found_of c.args.operands.now)) = c.in_ok-word.ensures in
    let number : Some count ≡ number_of word = c.in_ok-count.ensures ∙ ap number_of c.as_bytes.ensures.value in
    rw (sym found, sym number, (number_of_is word count (sym number)).is) refl

pub returns-clause-number : goal.returns-clause-number
returns-clause-number c =
    let number : Some c.in_ok-count.count ≡ number_of c.as_bytes.result.now = c.in_ok-count.ensures in
    let is = number_of_is c.as_bytes.result.now c.in_ok-count.count (sym number) in
    let within = is.within in (is.least, omega (arith, within))
