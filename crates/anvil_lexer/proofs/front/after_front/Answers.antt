-- A character that passes is stepped over; at one that doesn't, or at the end, what is left is what the loop came to.
use Rattle.std.proofs.Common.{sym, ◌∙◌, ap, []}
use Rattle.std.specs.Str.{chars}
use Rattle.std.proofs.lemmas.Str.{IsUtf8-past_char}
use Rattle.anvil_lexer.specs.Characters.{belongs}
use Rattle.anvil_lexer.specs.Scan as scan
use Rattle.anvil_lexer.proofs.Reading.{end_shorter, front_goes, front_ends, no_characters}
use Rattle.anvil_lexer.proofs.front.after_front.Goals as goal

pub loop-character-init : goal.loop-character-init
loop-character-init c =
    let start = c.chars-rest.ensures.rest in
    record { left = ap (λ l. scan.after_front (belongs c.args.class) (chars l)) start; end = ([], sym start); utf8 = rw start c.utf8.text }

pub loop-character-preserved : goal.loop-character-preserved
loop-character-preserved c =
    let kept = c.loop-character.invariant in
    let read = c.in-Some.ensures.steps.0 in
    record {
      left = sym (front_goes (belongs c.args.class) _ _ _ kept.utf8 read (sym c.has.ensures ∙ c.if-has.true)) ∙ kept.left;
      end = end_shorter _ _ _ _ kept.end read;
      utf8 = IsUtf8-past_char _ _ _ kept.utf8 read;
    }

pub returns-in_default-clause-left : goal.returns-in_default-clause-left
returns-in_default-clause-left c =
    let kept = c.loop-character.invariant in
    let ends = front_ends (belongs c.args.class) _ _ _ kept.utf8 c.in-Some.ensures.steps.0 (sym c.has.ensures ∙ c.if-has.false) in
    ap chars c.as_str-here.ensures ∙ sym ends ∙ kept.left

pub returns-in_default-2-clause-left : goal.returns-in_default-2-clause-left
returns-in_default-2-clause-left c =
    let kept = c.loop-character.invariant in
    let none = no_characters _ c.in_default.ensures.steps.0.0 in
    ap chars c.as_str-here.ensures ∙ none ∙ sym (ap (scan.after_front (belongs c.args.class)) none) ∙ kept.left
