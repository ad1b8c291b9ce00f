-- A source in UTF-8 is answered as its text is, and each answer is the only one; any other source has one refusal.
use Rattle.std.proofs.Common.{◌∙◌, ap, inl}
use Rattle.anvil_lexer.specs.declared.error.LexErr.TheVariants.{NotUtf8}
use Rattle.anvil_lexer.proofs.Whole.{every_text, every_refusal, not_utf8_refusal, answered_closed, answered_rising}
use Rattle.anvil_lexer.proofs.tokens.lex.Goals as goal

pub returns-in-Ok-clause-every_text : goal.returns-in-Ok-clause-every_text
returns-in-Ok-clause-every_text c =
    let text = c.in-Ok.ensures.cases in
    every_text c.args.source.now text.1 (λ v. v.items) c.tokens_of.result (rw text.0 at c.tokens_of.ensures)

pub returns-in-Ok-clause-every_refusal : goal.returns-in-Ok-clause-every_refusal
returns-in-Ok-clause-every_refusal c =
    let text = c.in-Ok.ensures.cases in
    every_refusal c.args.source.now text.1 (λ v. v.items) c.tokens_of.result (rw text.0 at c.tokens_of.ensures)

pub returns-in-Ok-clause-closed : goal.returns-in-Ok-clause-closed
returns-in-Ok-clause-closed c = answered_closed c.in-Ok.text.now (λ v. v.items) c.tokens_of.result c.tokens_of.ensures

pub returns-in-Ok-clause-rising : goal.returns-in-Ok-clause-rising
returns-in-Ok-clause-rising c = answered_rising c.in-Ok.text.now (λ v. v.items) c.tokens_of.result c.tokens_of.ensures

pub returns-in-Err-clause-every_refusal : goal.returns-in-Err-clause-every_refusal
returns-in-Err-clause-every_refusal c =
    let text = c.in-Err.ensures.cases in
    let at = c.valid_up_to.ensures in
    λ refusal is. inl (ap (λ n. NotUtf8 n) at ∙ not_utf8_refusal c.args.source.now _ text.0 text.1 refusal is)
