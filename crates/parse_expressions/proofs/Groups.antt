-- Behind `(`, all but `)` is the operand of a group.
use Rattle.std.proofs.Common.{◌≢◌, ◌≡◌, ℕ, List, ◌∷◌, refl}
use Rattle.anvil_lexer.specs.declared.token.Token.{Token}
use Rattle.anvil_lexer.specs.declared.token.TokenKind.{TokenKind}
use Rattle.anvil_lexer.specs.declared.token.TokenKind.TheVariants.{Mark}
use Rattle.anvil_lexer.specs.declared.token.Mark.TheVariants as mark
use Rattle.anvil_grammar.specs.State as states
use Rattle.anvil_grammar.specs.State.{Frame}
use Rattle.parse_expressions.specs.Read.{operand_read, parenthesis_read}

pub group_begins : (stack : List Frame) (at : ℕ) (token : Token) (kind : TokenKind) → kind ≢ Mark mark.CloseParen
    → parenthesis_read stack at token kind ≡ operand_read (states.grouping ∷ stack) token kind
group_begins stack at token (Mark mark.CloseParen) other = absurd (other refl)
group_begins stack at token kind other = refl
