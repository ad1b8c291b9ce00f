-- The digits that are left go on from the number so far to the whole one, and the number so far is within the limit.
use Rattle.std.proofs.Common.{◌≡◌, ◌≤◌, length}
use Rattle.std.specs.Str.{IsUtf8, chars}
use Rattle.anvil_lexer.specs.Characters.{value_after, value_of}
use Rattle.anvil_lexer.proofs.numeral.value.Given as goal

abbrev pub invariant-loop-digit : goal.invariant-loop-digit
invariant-loop-digit l = record {
  counted : value_after l.base l.value (chars l.rest.rest.now) ≡ value_of l.base (chars l.digits);
  within : l.value ≤ l.most;
  utf8 : IsUtf8 l.rest.rest.now;
}

abbrev pub decreases-loop-digit : goal.decreases-loop-digit
decreases-loop-digit l = length l.rest.rest.now
