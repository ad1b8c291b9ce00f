-- A source has one list of tokens or one first refusal, and not both: from each place there is one step (`Steps`), so two
-- readings of a source take the same steps.
use Rattle.std.proofs.Common.{◌≡◌, ℕ, ◌+◌, List, refl, sym, subst, drop}
use Rattle.std.specs.Str.{IsUtf8}
use Rattle.anvil_lexer.specs.declared.error.LexErr.{LexErr}
use Rattle.anvil_lexer.specs.declared.token.Token.{Token}
use Rattle.anvil_lexer.specs.TokenText.{AreTokensFrom, ended, token_next, FailsFrom, failed, token_before}
use Rattle.anvil_lexer.specs.Scan.{made}
use Rattle.anvil_lexer.proofs.Steps.{next, token_next_is, refusal_next_is, end_next_is}

module _ (source : List ℕ) where
  same_token : (from : ℕ) (token other : Token) → next source from ≡ made token → next source from ≡ made other → token ≡ other
  same_token from token other e f = cc

  moved : (token other : Token) → token ≡ other → (tokens : List Token) → AreTokensFrom source (other.at + other.len) tokens
      → AreTokensFrom source (token.at + token.len) tokens
  moved token other same tokens are = subst (λ (t : Token). AreTokensFrom source (t.at + t.len) tokens) (sym same) are

  moved_refusal : (token other : Token) → token ≡ other → (e : LexErr) → FailsFrom source (other.at + other.len) e
      → FailsFrom source (token.at + token.len) e
  moved_refusal token other same e fails = subst (λ (t : Token). FailsFrom source (t.at + t.len) e) (sym same) fails

  pub one_list : (from : ℕ) (tokens others : List Token) → IsUtf8 (drop from source) → AreTokensFrom source from tokens
      → AreTokensFrom source from others → tokens ≡ others
  one_list from tokens others utf8 (ended f end) (ended g end') = refl
  one_list from tokens others utf8 (ended f end) (token_next g u us gap is rest) =
      let here = end_next_is source from utf8 end in
      let there = token_next_is source from u utf8 gap is in
      absurd cc
  one_list from tokens others utf8 (token_next f t ts gap is rest) (ended g end) =
      let here = end_next_is source from utf8 end in
      let there = token_next_is source from t utf8 gap is in
      absurd cc
  one_list from tokens others utf8 (token_next f t ts gap is rest) (token_next g u us gap' is' rest') =
      let here = token_next_is source from t utf8 gap is in
      let there = token_next_is source from u utf8 gap' is' in
      let same : t ≡ u = same_token from t u here.0 there.0 in
      let later = one_list (t.at + t.len) ts us here.1 rest (moved t u same us rest') in
      cc

  pub one_refusal : (from : ℕ) (e f : LexErr) → IsUtf8 (drop from source) → FailsFrom source from e → FailsFrom source from f → e ≡ f
  one_refusal from e f utf8 (failed a at e' gap is) (failed b at' f' gap' is') =
      let here = refusal_next_is source from at e utf8 gap is in
      let there = refusal_next_is source from at' f utf8 gap' is' in
      cc
  one_refusal from e f utf8 (failed a at e' gap is) (token_before b u f' gap' is' rest) =
      let here = refusal_next_is source from at e utf8 gap is in
      let there = token_next_is source from u utf8 gap' is' in
      absurd cc
  one_refusal from e f utf8 (token_before a t e' gap is rest) (failed b at f' gap' is') =
      let here = refusal_next_is source from at f utf8 gap' is' in
      let there = token_next_is source from t utf8 gap is in
      absurd cc
  one_refusal from e f utf8 (token_before a t e' gap is rest) (token_before b u f' gap' is' rest') =
      let here = token_next_is source from t utf8 gap is in
      let there = token_next_is source from u utf8 gap' is' in
      one_refusal (t.at + t.len) e f here.1 rest (moved_refusal t u (same_token from t u here.0 there.0) f rest')

  pub tokens_or_refusal : (from : ℕ) (tokens : List Token) (e : LexErr) → IsUtf8 (drop from source)
      → AreTokensFrom source from tokens → FailsFrom source from e → ⊥
  tokens_or_refusal from tokens e utf8 (ended f end) (failed a at e' gap is) =
      let here = end_next_is source from utf8 end in
      let there = refusal_next_is source from at e utf8 gap is in
      cc
  tokens_or_refusal from tokens e utf8 (ended f end) (token_before a t e' gap is rest) =
      let here = end_next_is source from utf8 end in
      let there = token_next_is source from t utf8 gap is in
      absurd cc
  tokens_or_refusal from tokens e utf8 (token_next f t ts gap is rest) (failed a at e' gap' is') =
      let here = token_next_is source from t utf8 gap is in
      let there = refusal_next_is source from at e utf8 gap' is' in
      absurd cc
  tokens_or_refusal from tokens e utf8 (token_next f t ts gap is rest) (token_before a u e' gap' is' rest') =
      let here = token_next_is source from t utf8 gap is in
      let there = token_next_is source from u utf8 gap' is' in
      tokens_or_refusal (t.at + t.len) ts e here.1 rest (moved_refusal t u (same_token from t u here.0 there.0) e rest')
