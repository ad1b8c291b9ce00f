-- What is left of the text is a text, an end of the whole, and has the same end past the characters that pass.
use Rattle.std.proofs.Common.{◌≡◌, length}
use Rattle.std.specs.Str.{IsUtf8, chars}
use Rattle.anvil_lexer.specs.Characters.{belongs}
use Rattle.anvil_lexer.specs.Scan as scan
use Rattle.anvil_lexer.proofs.front.after_front.Given as goal

abbrev pub invariant-loop-character : goal.invariant-loop-character
invariant-loop-character l = record {
  left : scan.after_front (belongs l.class) (chars l.rest.rest.now) ≡ scan.after_front (belongs l.class) (chars l.text);
  end : scan.IsEndOf l.text l.rest.rest.now;
  utf8 : IsUtf8 l.rest.rest.now;
}

abbrev pub decreases-loop-character : goal.decreases-loop-character
decreases-loop-character l = length l.rest.rest.now
