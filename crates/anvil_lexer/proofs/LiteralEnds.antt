-- What makes a number a literal: the code reads a quote, a letter and digits off a text of bytes as the definition reads them
-- off its characters.
use Rattle.std.proofs.Common.{◌≡◌, ℕ, ◌<◌, List, [], ◌∷◌, ◌++◌, refl, ap, sym, ◌∙◌, append_assoc, length, arith, Option, Some, None, Ok, Err, subst}
use Rattle.std.specs.Str.{IsUtf8, chars, encode_utf8_all}
use Rattle.std.specs.Char.{encode_utf8}
use Rattle.std.proofs.lemmas.Bool.{eq-eqb}
use Rattle.std.proofs.lemmas.Str.{chars_past_char, IsUtf8-past_char, chars-append, encodes-chars}
use Rattle.anvil_lexer.specs.declared.class.Base.{Base}
use Rattle.anvil_lexer.specs.declared.class.Base.TheVariants.{Decimal}
use Rattle.anvil_lexer.specs.declared.error.LexErr.{LexErr}
use Rattle.anvil_lexer.specs.declared.token.TokenKind.{TokenKind}
use Rattle.anvil_lexer.specs.Characters.{is_digit, letter}
use Rattle.anvil_lexer.specs.Lexeme.{number, literal, characters_of}
use Rattle.anvil_lexer.specs.TokenText.{said_by}
use Rattle.anvil_lexer.specs.Scan.{front, base_of, some_digits, digits_in, literal_end, IsEndOf, IsLiteralEnd, after_front, ended_by, numeral, Reads, Fails}
use Rattle.anvil_lexer.proofs.Fronts.{front_joined}
use Rattle.anvil_lexer.proofs.Numerals.{letter_of_base}
use Rattle.anvil_lexer.proofs.Reading.{end_shorter, no_characters}

two_read : (after middle rest : List ℕ) (quote named : ℕ) → IsUtf8 after → after ≡ encode_utf8 quote ++ middle
    → middle ≡ encode_utf8 named ++ rest → chars after ≡ quote ∷ named ∷ chars rest
two_read after middle rest quote named utf8 e f =
    chars_past_char after middle quote utf8 e
    ∙ ap (λ l. quote ∷ l) (chars_past_char middle rest named (IsUtf8-past_char after middle quote utf8 e) f)

two_end : (text after middle rest : List ℕ) (quote named : ℕ) → IsEndOf text after → after ≡ encode_utf8 quote ++ middle
    → middle ≡ encode_utf8 named ++ rest → IsEndOf text rest
two_end text after middle rest quote named end e f = end_shorter text middle (encode_utf8 named) rest
    (end_shorter text after (encode_utf8 quote) middle end e) f

-- a quote alone
pub no_letter : (after middle : List ℕ) (quote : ℕ) → IsUtf8 after → after ≡ encode_utf8 quote ++ middle → length middle ≡ 0
    → literal_end (chars after) ≡ None
no_letter after middle quote utf8 e none = rw (chars_past_char after middle quote utf8 e, no_characters middle none) refl

module _ (after middle rest : List ℕ) (quote named : ℕ) (utf8 : IsUtf8 after) (first : after ≡ encode_utf8 quote ++ middle)
    (second : middle ≡ encode_utf8 named ++ rest) (is_quote : quote ≡ 39) where
  read : literal_end (chars after) ≡ digits_in (base_of named) (chars rest)
  read = rw (two_read after middle rest quote named utf8 first second, eq-eqb quote 39 is_quote) refl

  -- a letter that names no base
  pub no_base : base_of named ≡ None → literal_end (chars after) ≡ None
  no_base none = read ∙ rw none refl

  -- a letter without digits
  pub no_digits : (base : Base) (digits : List ℕ) → base_of named ≡ Some base → chars digits ≡ front (is_digit base) (chars rest)
      → length digits ≡ 0 → literal_end (chars after) ≡ None
  no_digits base digits is passing none = read ∙ rw (is, sym passing, no_characters digits none) refl

  some_found : (base : Base) (cs : List ℕ) (digits : List ℕ) → IsUtf8 digits → chars digits ≡ cs → 0 < length digits
      → some_digits base cs ≡ Some (base, cs)
  some_found base [] digits digits_utf8 is some =
      let empty : [] ≡ digits = sym (ap encode_utf8_all is) ∙ encodes-chars digits digits_utf8 in
      absurd (omega (arith, ap length empty))
  some_found base (d ∷ ds) digits digits_utf8 is some = refl

  -- all of it
  pub end_found : (base : Base) (here digits left : List ℕ) → here ≡ rest → base_of named ≡ Some base → IsUtf8 digits
      → IsUtf8 left → chars digits ≡ front (is_digit base) (chars here) → here ≡ digits ++ left → 0 < length digits
      → IsLiteralEnd after base digits left
  end_found base here digits left is_rest is digits_utf8 left_utf8 passing joined some =
      let rest_joined : rest ≡ digits ++ left = sym is_rest ∙ joined in
      let passing_rest : chars digits ≡ front (is_digit base) (chars rest) = passing ∙ ap (λ l. front (is_digit base) (chars l)) is_rest in
      record {
        found = read ∙ rw (is, sym passing_rest) (some_found base (chars digits) digits digits_utf8 refl some);
        joined =
            two_read after middle rest quote named utf8 first second
            ∙ rw (is_quote, letter_of_base named base is)
            (ap (λ l. 39 ∷ letter base ∷ l) (ap chars rest_joined ∙ chars-append digits left digits_utf8));
        end = end_shorter after rest digits left (two_end after after middle rest quote named ([], refl) first second) rest_joined;
        utf8 = left_utf8;
      }

-- the numeral at the front of a text whose digits were read
module _ (at : ℕ) (text width after : List ℕ) (passing : chars width ≡ front (is_digit Decimal) (chars text))
    (left : chars after ≡ after_front (is_digit Decimal) (chars text)) (joined : text ≡ width ++ after)
    (after_utf8 : IsUtf8 after) where
  whole : chars text ≡ chars width ++ chars after
  whole = sym (front_joined (is_digit Decimal) (chars text)) ∙ rw (passing, left) refl

  numeral_is : (end : Option (Base × List ℕ)) → literal_end (chars after) ≡ end → numeral (chars text) ≡ ended_by (chars width) end
  numeral_is end is = rw (sym left, sym passing, is) refl

  literal_joined : (base : Base) (digits rest : List ℕ) → IsLiteralEnd after base digits rest
      → chars text ≡ characters_of (literal (chars width) base (chars digits)) ++ chars rest
  literal_joined base digits rest end = whole ∙ ap (λ l. chars width ++ l) end.joined
      ∙ sym (append_assoc (chars width) (39 ∷ letter base ∷ chars digits) (chars rest))

  pub literal_reads : (base : Base) (digits rest : List ℕ) (kind : TokenKind) → IsLiteralEnd after base digits rest
      → said_by at (literal (chars width) base (chars digits)) (chars rest) ≡ Ok kind
      → Reads at (numeral (chars text)) text kind rest
  literal_reads base digits rest kind end says =
      subst (λ lexeme. Reads at lexeme text kind rest) (sym (numeral_is (Some (base, chars digits)) end.found))
      (record {
        says = says;
        joined = literal_joined base digits rest end;
        end = let (before, is) = end.end in
            (width ++ before, joined ∙ ap (λ l. width ++ l) is ∙ sym (append_assoc width before rest));
        utf8 = end.utf8;
      })

  pub literal_fails : (base : Base) (digits rest : List ℕ) (e : LexErr) → IsLiteralEnd after base digits rest
      → said_by at (literal (chars width) base (chars digits)) (chars rest) ≡ Err e
      → Fails at (numeral (chars text)) (chars text) e
  literal_fails base digits rest e end says =
      subst (λ lexeme. Fails at lexeme (chars text) e) (sym (numeral_is (Some (base, chars digits)) end.found))
      (record { rest = chars rest; says = says; joined = literal_joined base digits rest end })

  pub number_reads : (kind : TokenKind) → literal_end (chars after) ≡ None
      → said_by at (number (chars width)) (chars after) ≡ Ok kind → Reads at (numeral (chars text)) text kind after
  number_reads kind none says = subst (λ lexeme. Reads at lexeme text kind after) (sym (numeral_is None none))
      (record { says = says; joined = whole; end = (width, joined); utf8 = after_utf8 })

  pub number_fails : (e : LexErr) → literal_end (chars after) ≡ None → said_by at (number (chars width)) (chars after) ≡ Err e
      → Fails at (numeral (chars text)) (chars text) e
  number_fails e none says = subst (λ lexeme. Fails at lexeme (chars text) e) (sym (numeral_is None none))
      (record { rest = chars after; says = says; joined = whole })
