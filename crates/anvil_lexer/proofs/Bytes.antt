-- Characters and bytes of a text in UTF-8: a front of bytes that encodes characters is a front of those characters, and the
-- other way round; and the longer of two fronts in characters is the longer in bytes.
use Rattle.std.proofs.Common.{◌≡◌, ℕ, ◌<◌, ◌≤◌, List, [], ◌∷◌, ◌++◌, refl, ap, sym, ◌∙◌, subst, append_assoc, length, take, drop, arith, take-append-drop}
use Rattle.std.specs.Str.{IsUtf8, encode_utf8_all, chars}
use Rattle.std.specs.Char.{encode_utf8}
use Rattle.std.proofs.lemmas.List.{length-append, append_cancel_left, take_at, drop_at}
use Rattle.std.proofs.lemmas.Str.{chars_past_char, IsUtf8-past_char, encodes-append, encodes-chars, length-le-encodes}

-- the text after a front that encodes characters
pub after_characters : (cs : List ℕ) (text after : List ℕ) → IsUtf8 text → text ≡ encode_utf8_all cs ++ after
    → IsUtf8 after × (chars text ≡ cs ++ chars after)
after_characters [] text after utf8 joined = (subst IsUtf8 joined utf8, ap chars joined)
after_characters (c ∷ cs) text after utf8 joined =
    let first : text ≡ encode_utf8 c ++ (encode_utf8_all cs ++ after) = joined ∙ append_assoc (encode_utf8 c) (encode_utf8_all cs) after in
    let rest_utf8 = IsUtf8-past_char text (encode_utf8_all cs ++ after) c utf8 first in
    let rest = after_characters cs (encode_utf8_all cs ++ after) after rest_utf8 refl in
    (rest.0, chars_past_char text (encode_utf8_all cs ++ after) c utf8 first ∙ ap (λ l. c ∷ l) rest.1)

-- the bytes of a front of characters
pub record IsCut (cs ds text : List ℕ) : Type 0 where
  pub front_bytes : take (length (encode_utf8_all cs)) text ≡ encode_utf8_all cs
  pub after_utf8 : IsUtf8 (drop (length (encode_utf8_all cs)) text)
  pub after_chars : chars (drop (length (encode_utf8_all cs)) text) ≡ ds
  pub fits : length (encode_utf8_all cs) ≤ length text

pub cut_characters : (cs ds text : List ℕ) → IsUtf8 text → chars text ≡ cs ++ ds → IsCut cs ds text
cut_characters cs ds text utf8 joined =
    let bytes : text ≡ encode_utf8_all cs ++ encode_utf8_all ds = sym (encodes-chars text utf8) ∙ ap encode_utf8_all joined
    ∙ encodes-append cs ds in
    let after = after_characters cs text (encode_utf8_all ds) utf8 bytes in
    let rest_is : drop (length (encode_utf8_all cs)) text ≡ encode_utf8_all ds = ap (λ l. drop (length (encode_utf8_all cs)) l) bytes
    ∙ drop_at (encode_utf8_all cs) (encode_utf8_all ds) (length (encode_utf8_all cs)) refl in
    record {
      front_bytes = ap (λ l. take (length (encode_utf8_all cs)) l) bytes
          ∙ take_at (encode_utf8_all cs) (encode_utf8_all ds) (length (encode_utf8_all cs)) refl;
      after_utf8 = subst IsUtf8 (sym rest_is) after.0;
      after_chars = ap chars rest_is ∙ append_cancel_left cs (chars (encode_utf8_all ds)) ds (sym after.1 ∙ joined);
      fits = omega (arith, ap length bytes, length-append (encode_utf8_all cs) (encode_utf8_all ds));
    }

-- a front of bytes is a front of the text
pub front_joins : (n : ℕ) (front text : List ℕ) → take n text ≡ front → text ≡ front ++ drop n text
front_joins n front text e = sym (take-append-drop n text) ∙ ap (λ l. l ++ drop n text) e

-- of two fronts of one text, the one with more characters has more bytes
pub more_bytes : (xs ys others bs : List ℕ) → xs ++ others ≡ ys ++ bs → length xs < length ys
    → length (encode_utf8_all xs) < length (encode_utf8_all ys)
more_bytes [] ys others bs e less = omega (arith, length-le-encodes ys)
more_bytes (x ∷ xs) [] others bs e less = absurd (omega arith)
more_bytes (x ∷ xs) (y ∷ ys) others bs e less =
    let same_first : x ≡ y = cc in
    let same_rest : xs ++ others ≡ ys ++ bs = cc in
    let before = more_bytes xs ys others bs same_rest (omega arith) in
    rw (same_first, length-append (encode_utf8 y) (encode_utf8_all xs), length-append (encode_utf8 y) (encode_utf8_all ys)) (omega arith)

-- no characters, no bytes, and the other way round
pub some_bytes : (c : ℕ) (cs : List ℕ) → 0 < length (encode_utf8_all (c ∷ cs))
some_bytes c cs = omega (arith, length-le-encodes (c ∷ cs))
