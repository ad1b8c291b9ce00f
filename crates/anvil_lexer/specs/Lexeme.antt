-- A lexeme: a text that has the form of a token, before its size is looked at.
use Rattle.std.specs.Prelude.{◌≡◌, ℕ, ◌<◌, true, ⊤, List, ◌∷◌, ◌++◌, length}
use Rattle.std.specs.List.{AllByRecursion}
use Rattle.std.specs.Str.{encode_utf8_all}
use Rattle.anvil_lexer.specs.declared.class.Base.{Base}
use Rattle.anvil_lexer.specs.declared.class.Base.TheVariants.{Decimal}
use Rattle.anvil_lexer.specs.declared.token.Mark.{Mark}
use Rattle.anvil_lexer.specs.Characters.{begins_identifier, continues_identifier, is_digit, letter}
use Rattle.anvil_lexer.specs.Spelling.{mark_text}

pub data Lexeme : Type 0 where
  identifier : (first : ℕ) → (others : List ℕ) → Lexeme
  number : (digits : List ℕ) → Lexeme
  literal : (width : List ℕ) → (base : Base) → (digits : List ℕ) → Lexeme
  mark : Mark → Lexeme

-- one or more digits of a base
abbrev pub AreDigits : Base → List ℕ → Type 0
AreDigits base digits = (0 < length digits) × AllByRecursion (λ c. is_digit base c ≡ true) digits

-- the parts of a lexeme have the characters that they may have
abbrev pub IsLexeme : Lexeme → Type 0
IsLexeme (identifier first others) = (begins_identifier first ≡ true) × AllByRecursion (λ c. continues_identifier c ≡ true) others
IsLexeme (number digits) = AreDigits Decimal digits
IsLexeme (literal width base digits) = AreDigits Decimal width × AreDigits base digits
IsLexeme (mark m) = ⊤

-- how a lexeme is written, by characters: a literal has `'` and the letter of its base between width and digits
abbrev pub characters_of : Lexeme → List ℕ
characters_of (identifier first others) = first ∷ others
characters_of (number digits) = digits
characters_of (literal width base digits) = width ++ (39 ∷ letter base ∷ digits)
characters_of (mark m) = mark_text m

-- and by bytes
abbrev pub text_of : Lexeme → List ℕ
text_of lexeme = encode_utf8_all (characters_of lexeme)
