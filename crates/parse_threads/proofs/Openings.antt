-- How acts and terms begin: an act that begins by an operand begins ahead of the operand's node.
use Rattle.std.proofs.Common.{◌≡◌, ◌≢◌, List, [], ◌∷◌, false, refl}
use Rattle.anvil_lexer.specs.declared.token.Token.{Token}
use Rattle.anvil_lexer.specs.declared.token.TokenKind.{TokenKind}
use Rattle.anvil_lexer.specs.declared.token.TokenKind.TheVariants.{Key, Mark}
use Rattle.anvil_lexer.specs.declared.token.Keyword.TheVariants as key
use Rattle.anvil_lexer.specs.declared.token.Mark.TheVariants as mark
use Rattle.anvil_grammar.specs.declared.error.Counted.TheVariants as counted
use Rattle.anvil_grammar.specs.State as states
use Rattle.anvil_grammar.specs.State.{Frame}
use Rattle.anvil_grammar.specs.Step.{Threaded, unexpected, onward, finished, begins_act, begin_step, at_state, begin_step_by, operand_step, term_step}
use Rattle.parse_threads.specs.SeenThread.{acted, begins_by_key}

acted_act : (token : Token) (step : Threaded) → acted (record { kind = counted.Act; at = token.at }) step ≡ begins_act token step
acted_act token unexpected = refl
acted_act token (onward begun next) = refl
acted_act token (finished term) = refl

pub term_begins : (stack : List Frame) (token : Token) (kind : TokenKind) → kind ≢ Key key.Let → term_step stack token kind ≡ begin_step stack token kind
term_begins stack token (Key key.Let) other = absurd (other refl)
term_begins stack token kind other = refl

opens_expression : (stack : List Frame) (token : Token) (kind : TokenKind) → begins_by_key kind ≡ false → kind ≢ Mark mark.OpenBrace
    → begin_step_by stack token kind ≡ operand_step (states.evaluating ∷ stack) token kind
opens_expression stack token (Key key.Cycle) other brace = absurd cc
opens_expression stack token (Key key.Set) other brace = absurd cc
opens_expression stack token (Key key.Send) other brace = absurd cc
opens_expression stack token (Key key.Recv) other brace = absurd cc
opens_expression stack token (Key key.If) other brace = absurd cc
opens_expression stack token (Mark mark.OpenBrace) other brace = absurd (brace refl)
opens_expression stack token kind other brace = refl

pub expression_begins : (stack : List Frame) (token : Token) (kind : TokenKind) → begins_by_key kind ≡ false → kind ≢ Mark mark.OpenBrace
    → acted (record { kind = counted.Act; at = token.at }) (operand_step (states.evaluating ∷ stack) token kind) ≡ begin_step stack token kind
expression_begins stack token kind other brace =
    rw (opens_expression stack token kind other brace) (acted_act token (operand_step (states.evaluating ∷ stack) token kind))

pub block_begins : (stack : List Frame) (token : Token) (kind : TokenKind) → kind ≡ Mark mark.OpenBrace
    → begin_step stack token kind ≡ onward (record { kind = counted.Act; at = token.at } ∷ []) (at_state (states.blocking token.at ∷ stack) states.term_wanted)
block_begins stack token kind is = rw is refl
