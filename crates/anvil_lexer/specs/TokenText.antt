-- When a source and a list of tokens match, and when a source has a first refusal instead. It speaks of slices of the whole
-- source by places, which are byte offsets; the code goes over the source once, character by character.
use Rattle.std.specs.Prelude.{◌≡◌, ◌≢◌, ⊤, ℕ, ◌+◌, ◌^◌, ◌<◌, ◌≤◌, nat_le, false, ◌||◌, ◌==◌, List, [], ◌∷◌, length, take, drop, slice_range, if◌then◌else◌, Result, Ok, Err}
use Rattle.std.specs.Str.{IsUtf8, IsValidUpTo, encode_utf8_all, chars}
use Rattle.anvil_lexer.specs.declared.class.Base.TheVariants.{Decimal}
use Rattle.anvil_lexer.specs.declared.error.LexErr.{LexErr}
use Rattle.anvil_lexer.specs.declared.error.LexErr.TheVariants.{NotUtf8, BadChar, BadNumber, LongName, NoMemory}
use Rattle.anvil_lexer.specs.declared.token.TokenKind.{TokenKind}
use Rattle.anvil_lexer.specs.declared.token.TokenKind.TheVariants.{Number, Literal, Mark, End}
use Rattle.anvil_lexer.specs.declared.token.Token.{Token}
use Rattle.anvil_lexer.specs.Name.{longest_name}
use Rattle.anvil_lexer.specs.Characters.{continues_identifier, value_of, begins_with}
use Rattle.anvil_lexer.specs.Spelling.{kind_of_word}
use Rattle.anvil_lexer.specs.Lexeme.{Lexeme, identifier, number, literal, mark, IsLexeme, text_of}
use Rattle.anvil_lexer.specs.Gap.{IsGap, IsLastGap, begins_gap}

-- the lexeme stands at the front of the text
abbrev pub Begins : Lexeme → List ℕ → Type 0
Begins lexeme text = take (length (text_of lexeme)) text ≡ text_of lexeme

-- no longer lexeme stands there
pub record IsLongest (text : List ℕ) (lexeme : Lexeme) : Type 0 where
  pub formed : IsLexeme lexeme
  pub stands : Begins lexeme text
  pub longest : (other : Lexeme) → IsLexeme other → Begins other text → length (text_of other) ≤ length (text_of lexeme)

-- What the longest lexeme at a place says, before the characters that follow it: a token, or a refusal.
-- An identifier has at most as many bytes as a name.
-- A number is at most 2^32 - 1, and neither `'` nor a character that goes on with an identifier follows it.
-- A literal's width is at most 2^32 - 1 and its value at most 2^128 - 1, and no character that goes on with an identifier follows it.
abbrev pub said_by : ℕ → Lexeme → List ℕ → Result TokenKind LexErr
said_by at (identifier first others) after =
    let text = text_of (identifier first others) in
    if nat_le (length text) longest_name then Ok (kind_of_word text) else Err (LongName at)
said_by at (number digits) after =
    if begins_with continues_identifier after || (begins_with (λ c. c == 39) after || nat_le (2 ^ 32) (value_of Decimal digits))
    then Err (BadNumber at) else Ok (Number (value_of Decimal digits))
said_by at (literal width base digits) after =
    if begins_with continues_identifier after || (nat_le (2 ^ 32) (value_of Decimal width) || nat_le (2 ^ 128) (value_of base digits))
    then Err (BadNumber at) else Ok (Literal (value_of Decimal width) (value_of base digits))
said_by at (mark m) after = Ok (Mark m)

-- the longest lexeme at the place, and what it says
pub record Says (source : List ℕ) (at len : ℕ) (said : Result TokenKind LexErr) : Type 0 where
  pub lexeme : Lexeme
  pub longest : IsLongest (drop at source) lexeme
  pub long : len ≡ length (text_of lexeme)
  pub meaning : said_by at lexeme (chars (drop (at + len) source)) ≡ said

-- the token stands at its place
abbrev pub IsTokenAt : List ℕ → Token → Type 0
IsTokenAt source token = Says source token.at token.len (Ok token.kind)

-- no token can be made at the place: by what the longest lexeme says, or because none stands there, nor blank nor comment
pub data IsRefusalAt (source : List ℕ) (at : ℕ) : LexErr → Type 0 where
  unmade : (len : ℕ) (refusal : LexErr) → Says source at len (Err refusal) → IsRefusalAt source at refusal
  unknown : at < length source → begins_gap (chars (drop at source)) ≡ false
      → ((lexeme : Lexeme) → IsLexeme lexeme → ¬ (Begins lexeme (drop at source))) → IsRefusalAt source at (BadChar at)

-- only blanks and whole comments stand between two places
abbrev pub IsGapBetween : List ℕ → ℕ → ℕ → Type 0
IsGapBetween source from to = (from ≤ to) × ((gap : List ℕ) × (slice_range source from to ≡ encode_utf8_all gap) × IsGap gap)

-- only blanks and comments stand from the place to the end
abbrev pub IsGapToEnd : List ℕ → ℕ → Type 0
IsGapToEnd source from = (gap : List ℕ) × (drop from source ≡ encode_utf8_all gap) × IsLastGap gap

-- the token that closes each list
abbrev pub end_of : List ℕ → Token
end_of source = record { kind = End; at = length source; len = 0 }

-- the tokens of the source from a place on
pub data AreTokensFrom (source : List ℕ) : ℕ → List Token → Type 0 where
  ended : (from : ℕ) → IsGapToEnd source from → AreTokensFrom source from (end_of source ∷ [])
  token_next : (from : ℕ) (token : Token) (tokens : List Token) → IsGapBetween source from token.at → IsTokenAt source token
      → AreTokensFrom source (token.at + token.len) tokens → AreTokensFrom source from (token ∷ tokens)

-- the first refusal of the source from a place on
pub data FailsFrom (source : List ℕ) : ℕ → LexErr → Type 0 where
  failed : (from at : ℕ) (refusal : LexErr) → IsGapBetween source from at → IsRefusalAt source at refusal → FailsFrom source from refusal
  token_before : (from : ℕ) (token : Token) (refusal : LexErr) → IsGapBetween source from token.at → IsTokenAt source token
      → FailsFrom source (token.at + token.len) refusal → FailsFrom source from refusal

-- the source and the tokens match
abbrev pub IsTokenText : List ℕ → List Token → Type 0
IsTokenText source tokens = IsUtf8 source × AreTokensFrom source 0 tokens

-- the source has this first refusal: that it isn't UTF-8 comes before all others
abbrev pub IsLexRefusal : List ℕ → LexErr → Type 0
IsLexRefusal source (NotUtf8 at) = ¬ (IsUtf8 source) × IsValidUpTo source at
IsLexRefusal source (BadChar at) = IsUtf8 source × FailsFrom source 0 (BadChar at)
IsLexRefusal source (BadNumber at) = IsUtf8 source × FailsFrom source 0 (BadNumber at)
IsLexRefusal source (LongName at) = IsUtf8 source × FailsFrom source 0 (LongName at)
IsLexRefusal source NoMemory = ⊥

-- what follows from a match for each list of tokens: `End` stands at its end and nowhere else
abbrev pub AreClosed : List Token → Type 0
AreClosed [] = ⊥
AreClosed (token ∷ []) = token.kind ≡ End
AreClosed (token ∷ next ∷ tokens) = (token.kind ≢ End) × AreClosed (next ∷ tokens)

-- and each token stands after the one before it
abbrev pub ArePlacesRising : List Token → Type 0
ArePlacesRising [] = ⊤
ArePlacesRising (token ∷ []) = ⊤
ArePlacesRising (token ∷ next ∷ tokens) = (token.at < next.at) × ArePlacesRising (next ∷ tokens)
