-- Each way out is one of the definition's.
use Rattle.std.proofs.Common.{sym, ◌∙◌, ap, arith, eqb-true}
use Rattle.std.specs.Str.{chars}
use Rattle.std.proofs.lemmas.Bool.{eqb-false}
use Rattle.anvil_lexer.specs.Characters.{is_digit}
use Rattle.anvil_lexer.specs.Scan.{front}
use Rattle.anvil_lexer.proofs.LiteralEnds.{no_letter, no_base, no_digits, end_found}
use Rattle.anvil_lexer.proofs.numeral.literal_end.Goals as goal

pub returns-in_default-next : goal.returns-in_default-next
returns-in_default-next c =
    let start = c.chars-rest.ensures.rest in
    no_letter _ _ _ c.utf8.after (sym start ∙ c.in-Some.ensures.steps.0) c.in_default-next.ensures.steps.0.0

pub returns-in_default-base_of : goal.returns-in_default-base_of
returns-in_default-base_of c =
    let start = c.chars-rest.ensures.rest in
    no_base _ _ _ _ _ c.utf8.after (sym start ∙ c.in-Some.ensures.steps.0) c.in-Some-next.ensures.steps.0 c.if-quote-ne39.false
    (sym c.base_of.ensures ∙ c.in_default-base_of.is)

pub returns-then-is_empty : goal.returns-then-is_empty
returns-then-is_empty c =
    let start = c.chars-rest.ensures.rest in
    let empty = eqb-true _ 0 (sym c.is_empty.ensures ∙ c.if-is_empty.true) in
    no_digits _ _ _ _ _ c.utf8.after (sym start
    ∙ c.in-Some.ensures.steps.0) c.in-Some-next.ensures.steps.0 c.if-quote-ne39.false c.in-Some-base_of.base c.split_front.result.0.now
    (sym c.base_of.ensures ∙ c.in-Some-base_of.is)
    (c.split_front.ensures.passing ∙ ap (λ l. front (is_digit c.in-Some-base_of.base) (chars l)) c.as_str.ensures) empty

pub returns : goal.returns
returns c =
    let start = c.chars-rest.ensures.rest in
    let some = eqb-false _ 0 (sym c.is_empty.ensures ∙ c.if-is_empty.false) in
    end_found _ _ _ _ _ c.utf8.after (sym start
    ∙ c.in-Some.ensures.steps.0) c.in-Some-next.ensures.steps.0 c.if-quote-ne39.false c.in-Some-base_of.base c.as_str.result.now c.split_front.result.0.now c.split_front.result.1.now
    c.as_str.ensures (sym c.base_of.ensures
    ∙ c.in-Some-base_of.is) c.split_front.ensures.utf8 c.split_front.ensures.left_utf8 c.split_front.ensures.passing c.split_front.ensures.joined
    (omega arith)
