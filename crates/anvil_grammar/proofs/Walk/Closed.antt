-- Where a token other than `End` was taken from closed tokens, those behind it are closed.
use Rattle.std.proofs.Common.{◌≡◌, List, [], ◌∷◌}
use Rattle.anvil_lexer.specs.declared.token.Token.{Token}
use Rattle.anvil_lexer.specs.declared.token.TokenKind.TheVariants.{End}
use Rattle.anvil_lexer.specs.TokenText.{AreClosed}

pub closed_behind : (first : Token) (rest : List Token) → AreClosed (first ∷ rest) → (first.kind ≡ End → ⊥) → AreClosed rest
closed_behind first [] closed other = absurd (other closed)
closed_behind first (next ∷ rest) closed other = closed.1
