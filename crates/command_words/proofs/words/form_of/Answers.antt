use Rattle.std.proofs.Common.{◌≡◌, ◌∙◌, rules, true}
use Rattle.std.specs.List.{list_all}
use Rattle.clap.specs.Words.{app_of}
use Rattle.command_words.specs.Form.{is_operand, words_of}
use Rattle.command_words.proofs.Forms.{is_free, not_taken, taken}
use Rattle.command_words.proofs.words.form_of.Goals as goal

pub returns-in-Ok-clause-form : goal.returns-in-Ok-clause-form
returns-in-Ok-clause-form c =
    let operands : list_all is_operand (words_of c.args.words.now) ≡ true = search rules in
    let is = c.in_ok-matcher.ensures in
    c.command_in.ensures.form
    ∙ taken (app_of c.in_ok-matcher.field-0) (words_of c.args.words.now) c.in-Ok.matches is operands (c.in-Ok.ensures.kinds (is_free _ is)) c.in-Ok.ensures.matches

pub returns-clause-form : goal.returns-clause-form
returns-clause-form c =
    let operands : list_all is_operand (words_of c.args.words.now) ≡ true = search rules in
    let is = c.in_ok-matcher.ensures in
    not_taken (app_of c.in_ok-matcher.field-0) (words_of c.args.words.now) c.in-Err.error is operands (c.in-Err.ensures.kinds (is_free _ is))
    (λ memory. c.in_default.not-OutOfMemory (c.kind.ensures ∙ memory))
