-- What is left of the text is a text, an end of the whole, and what is to be skipped of it is what was to be skipped at first.
use Rattle.std.proofs.Common.{◌≡◌, false, length}
use Rattle.std.specs.Str.{IsUtf8, chars}
use Rattle.anvil_lexer.specs.Scan.{IsEndOf, skip}
use Rattle.anvil_lexer.proofs.gap.after_gap.Given as goal

abbrev pub invariant-loop-character : goal.invariant-loop-character
invariant-loop-character l = record {
  left : skip l.in_comment (chars l.rest.rest.now) ≡ skip false (chars l.text);
  end : IsEndOf l.text l.rest.rest.now;
  utf8 : IsUtf8 l.rest.rest.now;
}

abbrev pub decreases-loop-character : goal.decreases-loop-character
decreases-loop-character l = length l.rest.rest.now
