-- The whole answer: what is answered is the one list of tokens or the one first refusal, or want of memory. That the answer is
-- the only one is `Unique`; a list of tokens ends with its one `End`, and its places rise, since each token has a byte at least.
use Rattle.std.proofs.Common.{◌≡◌, ℕ, ◌+◌, ◌<◌, ◌≤◌, Bool, true, false, List, [], ◌∷◌, refl, ap, sym, ◌∙◌, length, drop, arith, Result, Ok, Err, ◌⊎◌, inl, inr, cond, nat_le, ◌==◌, ◌||◌, ◌^◌}
use Rattle.std.specs.Prelude.{◌≢◌, MatchResult, IfErr, IfOk}
use Rattle.std.specs.Str.{IsUtf8, IsValidUpTo, chars, bytes_eq}
use Rattle.std.proofs.lemmas.Str.{utf8_valid_len-IsValidUpTo}
use Rattle.std.proofs.lemmas.List.{length-take, length-drop}
use Rattle.anvil_lexer.specs.declared.class.Base.TheVariants.{Decimal}
use Rattle.anvil_lexer.specs.declared.error.LexErr.{LexErr}
use Rattle.anvil_lexer.specs.declared.error.LexErr.TheVariants.{NotUtf8, BadChar, BadNumber, LongName, NoMemory}
use Rattle.anvil_lexer.specs.declared.token.Keyword.{Keyword}
use Rattle.anvil_lexer.specs.declared.token.TokenKind.TheVariants.{Key, Number, Literal, End}
use Rattle.anvil_lexer.specs.declared.token.Token.{Token}
use Rattle.anvil_lexer.specs.Characters.{continues_identifier, begins_with, value_of}
use Rattle.anvil_lexer.specs.Spelling.{keyword_text, keywords, word_among, kind_of_word}
use Rattle.anvil_lexer.specs.Lexeme.{Lexeme, identifier, number, literal, mark, characters_of, text_of}
use Rattle.anvil_lexer.specs.TokenText.{said_by, IsTokenAt, AreTokensFrom, ended, token_next, FailsFrom, IsTokenText, IsLexRefusal, AreClosed, ArePlacesRising}
use Rattle.anvil_lexer.specs.Scan.{FailsOrFull}
use Rattle.anvil_lexer.proofs.Unique.{one_list, one_refusal, tokens_or_refusal}
use Rattle.anvil_lexer.proofs.Turns.{lexeme_some}
use Rattle.std.proofs.lemmas.Str.{length-le-encodes}

module _ (source : List ℕ) (utf8 : IsUtf8 source) {V : Type 0} (items : V → List Token) where
  abbrev pub Answered : Result V LexErr → Type 0
  Answered r = MatchResult r (λ v. AreTokensFrom source 0 (items v)) (λ e. FailsOrFull source e)

  -- each list that matches is the one that is answered, unless memory is wanting
  pub every_text : (r : Result V LexErr) → Answered r → (tokens : List Token) → IsTokenText source tokens
      → MatchResult r (λ v. items v ≡ tokens) (λ e. e ≡ NoMemory)
  every_text (Ok v) are tokens match = one_list source 0 (items v) tokens utf8 are match.1
  every_text (Err (NotUtf8 at)) fails tokens match = absurd fails
  every_text (Err (BadChar at)) fails tokens match = absurd (tokens_or_refusal source 0 tokens (BadChar at) utf8 match.1 fails)
  every_text (Err (BadNumber at)) fails tokens match = absurd (tokens_or_refusal source 0 tokens (BadNumber at) utf8 match.1 fails)
  every_text (Err (LongName at)) fails tokens match = absurd (tokens_or_refusal source 0 tokens (LongName at) utf8 match.1 fails)
  every_text (Err NoMemory) fails tokens match = refl

  pub refused : (r : Result V LexErr) → Answered r → IfErr r (λ e. e ≢ NoMemory → IsLexRefusal source e)
  refused (Ok v) are = tt
  refused (Err (NotUtf8 at)) fails = λ other. absurd fails
  refused (Err (BadChar at)) fails = λ other. (utf8, fails)
  refused (Err (BadNumber at)) fails = λ other. (utf8, fails)
  refused (Err (LongName at)) fails = λ other. (utf8, fails)
  refused (Err NoMemory) fails = λ other. absurd (other refl)

  -- and each first refusal
  at_refusal : (r : Result V LexErr) → Answered r → (refusal : LexErr) → FailsFrom source 0 refusal
      → MatchResult r (λ v. ⊥) (λ e. (e ≡ refusal) ⊎ (e ≡ NoMemory))
  at_refusal (Ok v) are refusal fails = tokens_or_refusal source 0 (items v) refusal utf8 are fails
  at_refusal (Err (NotUtf8 at)) found refusal fails = absurd found
  at_refusal (Err (BadChar at)) found refusal fails = inl (one_refusal source 0 (BadChar at) refusal utf8 found fails)
  at_refusal (Err (BadNumber at)) found refusal fails = inl (one_refusal source 0 (BadNumber at) refusal utf8 found fails)
  at_refusal (Err (LongName at)) found refusal fails = inl (one_refusal source 0 (LongName at) refusal utf8 found fails)
  at_refusal (Err NoMemory) found refusal fails = inr refl

  pub every_refusal : (r : Result V LexErr) → Answered r → (refusal : LexErr) → IsLexRefusal source refusal
      → MatchResult r (λ v. ⊥) (λ e. (e ≡ refusal) ⊎ (e ≡ NoMemory))
  every_refusal r answered (NotUtf8 at) refusal = absurd (refusal.0 utf8)
  every_refusal r answered (BadChar at) refusal = at_refusal r answered (BadChar at) refusal.1
  every_refusal r answered (BadNumber at) refusal = at_refusal r answered (BadNumber at) refusal.1
  every_refusal r answered (LongName at) refusal = at_refusal r answered (LongName at) refusal.1
  every_refusal r answered NoMemory refusal = absurd refusal

-- the one refusal of a source that isn't UTF-8
pub not_utf8_refusal : (source : List ℕ) (at : ℕ) → (IsUtf8 source → ⊥) → IsValidUpTo source at → (refusal : LexErr)
    → IsLexRefusal source refusal → NotUtf8 at ≡ refusal
not_utf8_refusal source at no_text valid (NotUtf8 other) refusal = ap (λ n. NotUtf8 n)
    (sym (utf8_valid_len-IsValidUpTo source at valid) ∙ utf8_valid_len-IsValidUpTo source other refusal.1)
not_utf8_refusal source at no_text valid (BadChar other) refusal = absurd (no_text refusal.0)
not_utf8_refusal source at no_text valid (BadNumber other) refusal = absurd (no_text refusal.0)
not_utf8_refusal source at no_text valid (LongName other) refusal = absurd (no_text refusal.0)
not_utf8_refusal source at no_text valid NoMemory refusal = absurd refusal

-- no lexeme says `End`
word_no_end : (keys : List Keyword) (text : List ℕ) → word_among keys text ≡ End → ⊥
word_no_end [] text e = cc
word_no_end (key ∷ keys) text e = go (bytes_eq (keyword_text key) text) (word_no_end keys text) e
  where
    go : (b : Bool) → (word_among keys text ≡ End → ⊥) → cond b (Key key) (word_among keys text) ≡ End → ⊥
    go true later f = cc
    go false later f = later f

kind_no_end : (text : List ℕ) → kind_of_word text ≡ End → ⊥
unfolding kind_of_word
kind_no_end text e = word_no_end keywords text e

never_end : (at : ℕ) (lexeme : Lexeme) (after : List ℕ) → said_by at lexeme after ≡ Ok End → ⊥
never_end at (identifier c others) after e = go (nat_le (length (text_of (identifier c others))) 64) e
  where
    go : (b : Bool) → cond b (Ok (kind_of_word (text_of (identifier c others)))) (Err (LongName at)) ≡ Ok End → ⊥
    go true f = let named : kind_of_word (text_of (identifier c others)) ≡ End = cc in kind_no_end _ named
    go false f = cc
never_end at (number digits) after e = go
    (begins_with continues_identifier after || (begins_with (λ c. c == 39) after || nat_le (2 ^ 32) (value_of Decimal digits))) e
  where
    go : (b : Bool) → cond b (Err (BadNumber at)) (Ok (Number (value_of Decimal digits))) ≡ Ok End → ⊥
    go true f = cc
    go false f = cc
never_end at (literal width base digits) after e = go
    (begins_with continues_identifier after || (nat_le (2 ^ 32) (value_of Decimal width) || nat_le (2 ^ 128) (value_of base digits))) e
  where
    go : (b : Bool) → cond b (Err (BadNumber at)) (Ok (Literal (value_of Decimal width) (value_of base digits))) ≡ Ok End → ⊥
    go true f = cc
    go false f = cc
never_end at (mark m) after e = cc

pub closed : (source : List ℕ) (from : ℕ) (tokens : List Token) → AreTokensFrom source from tokens → AreClosed tokens
closed source from tokens (ended f gap) = refl
closed source from tokens (token_next f token [] gap is rest) = absurd (closed source (token.at + token.len) [] rest)
closed source from tokens (token_next f token (next ∷ more) gap is rest) = (
  (λ end. never_end token.at is.lexeme (chars (drop (token.at + token.len) source)) (is.meaning ∙ ap (λ k. Ok k) end)),
  closed source (token.at + token.len) (next ∷ more) rest,
)

-- a token has a byte at least, and lies within the source
token_spans : (source : List ℕ) (token : Token) → IsTokenAt source token → (0 < token.len) × (token.at + token.len ≤ length source)
token_spans source token is =
    let some : 0 < length (text_of is.lexeme) = omega
    (arith, length-le-encodes (characters_of is.lexeme), lexeme_some is.lexeme is.longest.formed) in
    let long = ap length is.longest.stands in (
      omega (arith, is.long),
      omega
          (arith, is.long, long, length-take (length (text_of is.lexeme)) (drop token.at source), length-drop token.at source),
    )

first_after : (source : List ℕ) (from : ℕ) (token : Token) (tokens : List Token) → from ≤ length source
    → AreTokensFrom source from (token ∷ tokens) → from ≤ token.at
first_after source from token tokens within (ended f gap) = within
first_after source from token tokens within (token_next f t ts gap is rest) = gap.0

pub rising : (source : List ℕ) (from : ℕ) (tokens : List Token) → AreTokensFrom source from tokens → ArePlacesRising tokens
rising source from tokens (ended f gap) = tt
rising source from tokens (token_next f token [] gap is rest) = tt
rising source from tokens (token_next f token (next ∷ more) gap is rest) =
    let spans = token_spans source token is in
    let after = first_after source (token.at + token.len) next more spans.1 rest in
    (omega arith, rising source (token.at + token.len) (next ∷ more) rest)

module _ (source : List ℕ) {V : Type 0} (items : V → List Token) where
  pub answered_closed : (r : Result V LexErr) → MatchResult r (λ v. AreTokensFrom source 0 (items v)) (λ e. FailsOrFull source e)
      → IfOk r (λ v. AreClosed (items v))
  answered_closed (Ok v) are = closed source 0 (items v) are
  answered_closed (Err e) fails = tt

  pub answered_rising : (r : Result V LexErr) → MatchResult r (λ v. AreTokensFrom source 0 (items v)) (λ e. FailsOrFull source e)
      → IfOk r (λ v. ArePlacesRising (items v))
  answered_rising (Ok v) are = rising source 0 (items v) are
  answered_rising (Err e) fails = tt
