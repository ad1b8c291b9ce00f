-- The reader that computes: the longest lexeme at the front of a text, and what is left after blanks and comments. Texts are
-- lists of characters. The functions of the crate give what is computed here, and lemmas show that it is what the
-- definitions of token texts ask for.
use Rattle.std.specs.Prelude.{◌≡◌, ⊤, ◌++◌, ℕ, Bool, true, false, ◌&&◌, ◌==◌, List, [], ◌∷◌, take, if◌then◌else◌, Option, Some, None, Result, Ok, Err, length, drop}
use Rattle.std.specs.Str.{IsUtf8, bytes_eq, chars, encode_utf8_all}
use Rattle.anvil_lexer.specs.declared.class.Base.{Base}
use Rattle.anvil_lexer.specs.declared.class.Base.TheVariants.{Decimal, Hexadecimal, Binary}
use Rattle.anvil_lexer.specs.declared.error.LexErr.{LexErr}
use Rattle.anvil_lexer.specs.declared.error.LexErr.TheVariants.{NotUtf8, BadChar, BadNumber, LongName, NoMemory}
use Rattle.anvil_lexer.specs.declared.token.TokenKind.{TokenKind}
use Rattle.anvil_lexer.specs.declared.token.Token.{Token}
use Rattle.anvil_lexer.specs.declared.token.Mark.{Mark}
use Rattle.anvil_lexer.specs.declared.token.Mark.TheVariants as mark_named
use Rattle.anvil_lexer.specs.Characters.{begins_identifier, continues_identifier, is_digit, letter, begins_with}
use Rattle.anvil_lexer.specs.Spelling.{mark_text}
use Rattle.anvil_lexer.specs.Lexeme.{Lexeme, identifier, number, literal, mark, characters_of, text_of}
use Rattle.anvil_lexer.specs.Gap.{is_blank}
use Rattle.anvil_lexer.specs.TokenText.{said_by, FailsFrom}

-- the bytes are an end of the text
abbrev pub IsEndOf : List ℕ → List ℕ → Type 0
IsEndOf text end = (before : List ℕ) × (text ≡ before ++ end)

-- the longest front of characters that pass, and what is after it
abbrev pub front : (ℕ → Bool) → List ℕ → List ℕ
front passes [] = []
front passes (c ∷ cs) = if passes c then c ∷ front passes cs else []

abbrev pub after_front : (ℕ → Bool) → List ℕ → List ℕ
after_front passes [] = []
after_front passes (c ∷ cs) = if passes c then after_front passes cs else c ∷ cs

-- the base that a letter names
abbrev pub base_of : ℕ → Option Base
base_of c = if c == 100 then Some Decimal else (if c == 104 then Some Hexadecimal else (if c == 98 then Some Binary else None))

-- what makes a number a literal: `'`, the letter of a base and digits, where these stand after the number
abbrev pub some_digits : Base → List ℕ → Option (Base × List ℕ)
some_digits base [] = None
some_digits base (digit ∷ digits) = Some (base, digit ∷ digits)

abbrev pub digits_in : Option Base → List ℕ → Option (Base × List ℕ)
digits_in None cs = None
digits_in (Some base) cs = some_digits base (front (is_digit base) cs)

abbrev pub literal_end : List ℕ → Option (Base × List ℕ)
literal_end [] = None
literal_end (quote ∷ []) = None
literal_end (quote ∷ c ∷ cs) = if quote == 39 then digits_in (base_of c) cs else None

-- the same by bytes: after the number stand `'`, the letter, the digits, and then the rest
pub record IsLiteralEnd (after : List ℕ) (base : Base) (digits rest : List ℕ) : Type 0 where
  pub found : literal_end (chars after) ≡ Some (base, chars digits)
  pub joined : chars after ≡ 39 ∷ letter base ∷ (chars digits ++ chars rest)
  pub end : IsEndOf after rest
  pub utf8 : IsUtf8 rest

abbrev pub ended_by : List ℕ → Option (Base × List ℕ) → Lexeme
ended_by width None = number width
ended_by width (Some end) = literal width end.0 end.1

abbrev pub numeral : List ℕ → Lexeme
numeral cs = ended_by (front (is_digit Decimal) cs) (literal_end (after_front (is_digit Decimal) cs))

abbrev pub marks : List Mark
marks =
    mark_named.OpenBrace ∷ mark_named.CloseBrace ∷ mark_named.OpenParen ∷ mark_named.CloseParen ∷ mark_named.OpenBracket ∷ mark_named.CloseBracket
    ∷ mark_named.Comma ∷ mark_named.Semicolon ∷ mark_named.Colon ∷ mark_named.Assign ∷ mark_named.Equals ∷ mark_named.Dot ∷ mark_named.At ∷ mark_named.Hash
    ∷ mark_named.Question ∷ mark_named.Chain ∷ mark_named.Tilde ∷ mark_named.Plus ∷ mark_named.Minus ∷ mark_named.Star ∷ mark_named.Amp ∷ mark_named.Bar
    ∷ mark_named.Caret ∷ mark_named.EqEq ∷ mark_named.NotEq ∷ mark_named.Less ∷ mark_named.LessEq ∷ mark_named.Greater ∷ mark_named.GreaterEq ∷ []

-- what a table has for a spelling
abbrev pub spelled_in : {T : Type 0} → List (List ℕ × T) → List ℕ → Option T
spelled_in [] text = None
spelled_in (row ∷ rows) text = if bytes_eq row.0 text then Some row.1 else spelled_in rows text

-- the mark of the list that is spelled so
abbrev pub mark_among : List Mark → List ℕ → Option Mark
mark_among [] text = None
mark_among (m ∷ ms) text = if bytes_eq (mark_text m) text then Some m else mark_among ms text

unfoldable pub mark_spelled : List ℕ → Option Mark
mark_spelled = mark_among marks

abbrev pub first_mark : Option Mark → Option Mark → Option Lexeme
first_mark (Some m) other = Some (mark m)
first_mark None (Some m) = Some (mark m)
first_mark None None = None

-- a mark of two characters comes before one of one
abbrev pub mark_at : List ℕ → Option Lexeme
mark_at cs = first_mark (mark_spelled (encode_utf8_all (take 2 cs))) (mark_spelled (encode_utf8_all (take 1 cs)))

-- the longest lexeme at the front
unfoldable pub scan : List ℕ → Option Lexeme
scan [] = None
scan (c ∷ cs) =
    if begins_identifier c then Some (identifier c (front continues_identifier cs))
    else (if is_digit Decimal c then Some (numeral (c ∷ cs)) else mark_at (c ∷ cs))

-- what is left after blanks and comments, of a text that begins inside a comment or outside
abbrev pub skip : (inside : Bool) → List ℕ → List ℕ
skip inside [] = []
skip true (c ∷ cs) = if c == 10 then skip false cs else skip true cs
skip false (c ∷ cs) =
    if is_blank c then skip false cs
    else (if c == 47 && begins_with (λ d. d == 47) cs then skip true cs else c ∷ cs)

-- the lexeme at the front of a text of bytes says a token, and this is left after it
pub record Reads (at : ℕ) (lexeme : Lexeme) (text : List ℕ) (kind : TokenKind) (rest : List ℕ) : Type 0 where
  pub says : said_by at lexeme (chars rest) ≡ Ok kind
  pub joined : chars text ≡ characters_of lexeme ++ chars rest
  pub end : IsEndOf text rest
  pub utf8 : IsUtf8 rest

-- it says a refusal instead
pub record Fails (at : ℕ) (lexeme : Lexeme) (text : List ℕ) (e : LexErr) : Type 0 where
  pub rest : List ℕ
  pub says : said_by at lexeme rest ≡ Err e
  pub joined : text ≡ characters_of lexeme ++ rest

-- the identifier at the front of a text that begins with one
abbrev pub named : List ℕ → Lexeme
named [] = identifier 0 []
named (c ∷ cs) = identifier c (front continues_identifier cs)

-- the mark at the front of a text of bytes, and what is left after it
pub record IsMarkAt (text : List ℕ) (m : Mark) (rest : List ℕ) : Type 0 where
  pub found : mark_at (chars text) ≡ Some (mark m)
  pub joined : chars text ≡ mark_text m ++ chars rest
  pub end : IsEndOf text rest
  pub utf8 : IsUtf8 rest

-- the longest lexeme at the front of a text of bytes says a token, and this is left after it
pub record ReadsNext (at : ℕ) (text : List ℕ) (kind : TokenKind) (rest : List ℕ) : Type 0 where
  pub lexeme : Lexeme
  pub scanned : scan (chars text) ≡ Some lexeme
  pub reads : Reads at lexeme text kind rest

-- there is none, or it says a refusal
pub data FailsNext (at : ℕ) (text : List ℕ) : LexErr → Type 0 where
  none_there : scan (chars text) ≡ None → FailsNext at text (BadChar at)
  said_refusal : (lexeme : Lexeme) (e : LexErr) → scan (chars text) ≡ Some lexeme → Fails at lexeme (chars text) e → FailsNext at text e

-- a refusal of the text, or want of memory
abbrev pub FailsOrFull : List ℕ → LexErr → Type 0
FailsOrFull text NoMemory = ⊤
FailsOrFull text (NotUtf8 at) = ⊥
FailsOrFull text (BadChar at) = FailsFrom text 0 (BadChar at)
FailsOrFull text (BadNumber at) = FailsFrom text 0 (BadNumber at)
FailsOrFull text (LongName at) = FailsFrom text 0 (LongName at)

-- what comes next at a place that is past blanks and comments: the end, a token, or the first refusal
pub data Step : Type 0 where
  at_end : Step
  made : Token → Step
  refusal : LexErr → Step

abbrev pub said : ℕ → ℕ → Result TokenKind LexErr → Step
said at len (Ok kind) = made (record { kind = kind; at = at; len = len })
said at len (Err e) = refusal e

abbrev pub stepped : ℕ → List ℕ → Option Lexeme → Step
stepped at cs None = refusal (BadChar at)
stepped at cs (Some lexeme) = said at (length (text_of lexeme)) (said_by at lexeme (drop (length (characters_of lexeme)) cs))

abbrev pub step : ℕ → List ℕ → Step
step at [] = at_end
step at (c ∷ cs) = stepped at (c ∷ cs) (scan (c ∷ cs))
