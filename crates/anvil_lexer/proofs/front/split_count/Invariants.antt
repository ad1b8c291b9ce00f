-- As many characters are dropped as the counter says.
use Rattle.std.proofs.Common.{◌≡◌, drop}
use Rattle.std.specs.Str.{IsUtf8, chars}
use Rattle.anvil_lexer.specs.Scan.{IsEndOf}
use Rattle.anvil_lexer.proofs.front.split_count.Given as goal

abbrev pub invariant-loop : goal.invariant-loop
invariant-loop l = record {
  left : chars l.rest.rest.now ≡ drop l.counter (chars l.text);
  end : IsEndOf l.text l.rest.rest.now;
  utf8 : IsUtf8 l.rest.rest.now;
}
