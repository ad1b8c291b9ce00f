-- The table of marks: what it finds is spelled so, each mark is found by its text, and at the front of a text a mark of two
-- characters is found before one of one. Each mark is tried by computing.
use Rattle.std.proofs.Common.{◌≡◌, ℕ, ◌<◌, List, [], ◌∷◌, ◌++◌, refl, ap, Option, Some, None, length, arith, sym, ◌∙◌, ◌⊎◌, inl, inr}
use Rattle.std.specs.Str.{bytes_eq, encode_utf8_all}
use Rattle.std.specs.Char.{encode_utf8}
use Rattle.std.proofs.lemmas.Str.{encodes_same}
use Rattle.std.proofs.lemmas.Slice.Eq.{bytes_eq-Decides}
use Rattle.std.proofs.lemmas.Bool.{cases_Bool, cond-true, cond-false}
use Rattle.anvil_lexer.specs.declared.token.Mark.{Mark}
use Rattle.anvil_lexer.specs.declared.token.Mark.TheVariants.{OpenBrace, Assign, Chain, EqEq, NotEq, LessEq, GreaterEq}
use Rattle.anvil_lexer.specs.Spelling.{mark_text}
use Rattle.anvil_lexer.specs.Lexeme.{Lexeme, mark, characters_of}
use Rattle.anvil_lexer.specs.Scan.{mark_among, marks, mark_spelled, first_mark, mark_at, scan}
use Rattle.unicode_ident.proofs.Computing.{unicode_ident}

-- the text of a mark is ASCII
pub mark_ascii : (m : Mark) → encode_utf8_all (mark_text m) ≡ mark_text m
unfolding encode_utf8
mark_ascii OpenBrace = refl
mark_ascii m = refl

pub mark_some : (m : Mark) → 0 < length (mark_text m)
mark_some OpenBrace = omega arith
mark_some m = omega arith

pub mark_scanned : (m : Mark) (more : List ℕ) → scan (mark_text m ++ more) ≡ mark_at (mark_text m ++ more)
unfolding scan unicode_ident
mark_scanned OpenBrace more = refl
mark_scanned m more = refl

read_among : (ms : List Mark) (text : List ℕ) (m : Mark) → mark_among ms text ≡ Some m → mark_text m ≡ text
read_among [] text m found = absurd cc
read_among (n ∷ ns) text m found =
    let before = read_among ns text m in
    elim (cases_Bool (bytes_eq (mark_text n) text)) [
      | inl same ↦
          let found_here : Some n ≡ Some m = rw (cond-true (bytes_eq (mark_text n) text) (Some n) (mark_among ns text) same) at found in
          let named : n ≡ m = cc in
          ap mark_text (sym named) ∙ (bytes_eq-Decides (mark_text n) text).0 same
      | inr other ↦ before (rw (cond-false (bytes_eq (mark_text n) text) (Some n) (mark_among ns text) other) at found)
    ]

-- what the table finds is spelled so
pub mark_read : (cs : List ℕ) (m : Mark) → mark_spelled (encode_utf8_all cs) ≡ Some m → cs ≡ mark_text m
unfolding mark_spelled
mark_read cs m found = encodes_same cs (mark_text m) (sym (read_among marks (encode_utf8_all cs) m found) ∙ sym (mark_ascii m))

-- the lexeme that was found is the other one or a longer one
abbrev pub IsBest : Lexeme → Option Lexeme → Type 0
IsBest other found = (best : Lexeme) × (found ≡ Some best) × ((best ≡ other) ⊎ (length (characters_of other) < length (characters_of best)))

two_characters : (a b : ℕ) (more : List ℕ) (m : Mark) (r : Option Mark) → mark_text m ≡ a ∷ []
    → mark_spelled (encode_utf8_all (a ∷ [])) ≡ Some m
    → mark_spelled (encode_utf8_all (a ∷ b ∷ [])) ≡ r → IsBest (mark m) (first_mark r (mark_spelled (encode_utf8_all (a ∷ []))))
two_characters a b more m None text short long = (mark m, rw short refl, inl refl)
two_characters a b more m (Some n) text short long =
    let lengths = ap length (mark_read (a ∷ b ∷ []) n long) in
    let length_is = ap length text in
    (mark n, refl, inr (omega arith))

one_character : (a : ℕ) (more : List ℕ) (m : Mark) → mark_text m ≡ a ∷ [] → mark_spelled (encode_utf8_all (a ∷ [])) ≡ Some m
    → IsBest (mark m) (mark_at (a ∷ more))
one_character a [] m text short = (mark m, rw short refl, inl refl)
one_character a (b ∷ more) m text short = two_characters a b more m (mark_spelled (encode_utf8_all (a ∷ b ∷ []))) text short refl

-- no mark at the front is longer than the one that is found
pub mark_best : (m : Mark) (more : List ℕ) → IsBest (mark m) (mark_at (mark_text m ++ more))
unfolding mark_spelled encode_utf8
mark_best Assign more = (mark Assign, refl, inl refl)
mark_best Chain more = (mark Chain, refl, inl refl)
mark_best EqEq more = (mark EqEq, refl, inl refl)
mark_best NotEq more = (mark NotEq, refl, inl refl)
mark_best LessEq more = (mark LessEq, refl, inl refl)
mark_best GreaterEq more = (mark GreaterEq, refl, inl refl)
mark_best OpenBrace more = one_character _ more OpenBrace refl refl
mark_best m more = one_character _ more m refl refl
