-- The tokens so far come before whatever is read of what is left, and a refusal of what is left is one of the text.
use Rattle.std.proofs.Common.{◌++◌, List, length}
use Rattle.std.specs.Str.{IsUtf8}
use Rattle.anvil_lexer.specs.declared.error.LexErr.{LexErr}
use Rattle.anvil_lexer.specs.declared.token.Token.{Token}
use Rattle.anvil_lexer.specs.TokenText.{AreTokensFrom, FailsFrom}
use Rattle.anvil_lexer.specs.Scan.{IsEndOf}
use Rattle.anvil_lexer.proofs.Turns.{place_of}
use Rattle.anvil_lexer.proofs.tokens.tokens_of.Given as goal

abbrev pub invariant-loop-first : goal.invariant-loop-first
invariant-loop-first l = record {
  utf8 : IsUtf8 l.rest;
  end : IsEndOf l.text l.rest;
  tokens : (tokens : List Token) → AreTokensFrom l.text (place_of l.text l.rest) tokens → AreTokensFrom l.text 0 (l.tokens.items ++ tokens);
  refusals : (e : LexErr) → FailsFrom l.text (place_of l.text l.rest) e → FailsFrom l.text 0 e;
}

abbrev pub decreases-loop-first : goal.decreases-loop-first
decreases-loop-first l = length l.rest
