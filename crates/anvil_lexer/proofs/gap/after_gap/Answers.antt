-- Each character is skipped as the definition skips it, and where it stops the text is left.
use Rattle.std.proofs.Common.{sym, ◌∙◌, ap, ◌≡◌, ◌==◌, ◌&&◌, false}
use Rattle.std.specs.Str.{chars}
use Rattle.std.proofs.lemmas.Str.{IsUtf8-past_char}
use Rattle.std.proofs.lemmas.Bool.{and_left, and_right, eq-eqb, ne_eqb}
use Rattle.anvil_lexer.specs.Characters.{begins_with}
use Rattle.anvil_lexer.proofs.Reading.{end_shorter, skip_inside_step, skip_blank_step, skip_slashes_step, skip_ends, skip_nothing}
use Rattle.anvil_lexer.proofs.gap.after_gap.Goals as goal
use Rattle.anvil_lexer.proofs.gap.after_gap.Goals.{else-character-eq47-via-then-character-eq47+else-begins_with, else-character-eq47-via-else-character-eq47}

pub returns-in_default-clause-left : goal.returns-in_default-clause-left
returns-in_default-clause-left c =
    let kept = c.loop-character.invariant in
    ap chars c.as_str-here.ensures ∙ sym (skip_nothing _ c.loop-character.in_comment c.in_default.ensures.steps.0.0) ∙ kept.left

pub loop-character-preserved-then-in_comment : goal.loop-character-preserved-then-in_comment
loop-character-preserved-then-in_comment c =
    let kept = c.loop-character.invariant in
    let read = c.in-Some.ensures.steps.0 in
    record {
      left = sym (skip_inside_step _ _ _ _ kept.utf8 read c.if-in_comment.true) ∙ kept.left;
      end = end_shorter _ _ _ _ kept.end read;
      utf8 = IsUtf8-past_char _ _ _ kept.utf8 read;
    }

pub loop-character-preserved-then-is_blank : goal.loop-character-preserved-then-is_blank
loop-character-preserved-then-is_blank c =
    let kept = c.loop-character.invariant in
    let read = c.in-Some.ensures.steps.0 in
    record {
      left = rw c.if-in_comment.false
          (sym (skip_blank_step _ _ _ _ kept.utf8 read c.if-in_comment.false (sym c.is_blank.ensures ∙ c.if-is_blank.true)) ∙ kept.left);
      end = end_shorter _ _ _ _ kept.end read;
      utf8 = IsUtf8-past_char _ _ _ kept.utf8 read;
    }

pub loop-character-preserved : goal.loop-character-preserved
loop-character-preserved c =
    let kept = c.loop-character.invariant in
    let read = c.in-Some.ensures.steps.0 in
    let second = rw c.as_str.ensures at (sym c.begins_with.ensures ∙ c.if-begins_with.true) in
    record {
      left = sym (skip_slashes_step _ _ _ _ kept.utf8 read c.if-in_comment.false (sym c.is_blank.ensures ∙ c.if-is_blank.false)
          (eq-eqb _ 47 c.if-character-eq47.true) second)
          ∙ kept.left;
      end = end_shorter _ _ _ _ kept.end read;
      utf8 = IsUtf8-past_char _ _ _ kept.utf8 read;
    }

pub returns-else-character-eq47-clause-left : goal.returns-else-character-eq47-clause-left
returns-else-character-eq47-clause-left c =
    let kept = c.loop-character.invariant in
    let read = c.in-Some.ensures.steps.0 in
    let no_comment : (c.in-Some.character == 47 && begins_with (λ d. d == 47) (chars c.next.new.self.rest.now)) ≡ false =
    elim c.else-character-eq47.branch [
      | else-character-eq47-via-then-character-eq47+else-begins_with w ↦
          and_right (c.in-Some.character == 47) _ (rw w.as_str.ensures at (sym w.begins_with.ensures ∙ w.if-begins_with.false))
      | else-character-eq47-via-else-character-eq47 w ↦ and_left (c.in-Some.character == 47) _ (ne_eqb _ 47 w.if-character-eq47.false)
    ] in
    let ends = skip_ends _ _ _ _ kept.utf8 read c.if-in_comment.false (sym c.is_blank.ensures ∙ c.if-is_blank.false) no_comment in
    ap chars c.as_str-here.ensures ∙ sym ends ∙ kept.left
