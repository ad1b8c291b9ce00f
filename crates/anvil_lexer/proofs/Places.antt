-- The longest lexeme of a text of bytes is the one that the reader finds among its characters, and a lexeme begins with
-- neither a blank nor a comment.
use Rattle.std.proofs.Common.{◌≡◌, ℕ, ◌<◌, true, false, List, [], ◌∷◌, ◌++◌, refl, ap, sym, ◌∙◌, length, drop, arith, Option, Some, None, inl, inr, ◌==◌}
use Rattle.std.specs.Str.{IsUtf8, chars}
use Rattle.std.proofs.lemmas.Bool.{false_from_ne_true, false≢true, eqb-true}
use Rattle.std.proofs.lemmas.Bool.Decides.{nat_tests}
use Rattle.unicode_ident.proofs.Computing.{unicode_ident}
use Rattle.anvil_lexer.specs.declared.class.Base.TheVariants.{Decimal}
use Rattle.anvil_lexer.specs.declared.token.Mark.{Mark}
use Rattle.anvil_lexer.specs.declared.token.Mark.TheVariants.{OpenBrace}
use Rattle.anvil_lexer.specs.Characters.{begins_identifier, is_digit, letter}
use Rattle.anvil_lexer.specs.Spelling.{mark_text}
use Rattle.anvil_lexer.specs.Lexeme.{Lexeme, identifier, number, literal, mark, characters_of, text_of, IsLexeme}
use Rattle.anvil_lexer.specs.Gap.{is_blank, begins_gap}
use Rattle.anvil_lexer.specs.TokenText.{Begins, IsLongest}
use Rattle.anvil_lexer.specs.Scan.{scan}
use Rattle.anvil_lexer.proofs.Longest.{scan_read, scan_best}
use Rattle.anvil_lexer.proofs.Bytes.{after_characters, cut_characters, front_joins, more_bytes}

-- a lexeme stands at the front where its characters do
begun : (text : List ℕ) (lexeme : Lexeme) → IsUtf8 text → Begins lexeme text → (more : List ℕ) × (chars text ≡ characters_of lexeme ++ more)
begun text lexeme utf8 stands =
    let joined = front_joins (length (text_of lexeme)) (text_of lexeme) text stands in (
      chars (drop (length (text_of lexeme)) text),
      (after_characters (characters_of lexeme) text (drop (length (text_of lexeme)) text) utf8 joined).1,
    )

-- the longest lexeme is found
pub longest_scanned : (text : List ℕ) (lexeme : Lexeme) → IsUtf8 text → IsLongest text lexeme → scan (chars text) ≡ Some lexeme
longest_scanned text lexeme utf8 longest =
    let here = begun text lexeme utf8 longest.stands in
    let best = scan_best lexeme here.0 longest.formed in
    let scanned : scan (chars text) ≡ Some best.0 = ap scan here.1 ∙ best.1 in
    elim best.2 [
      | inl same ↦ scanned ∙ ap (λ l. Some l) same
      | inr longer ↦
          let read = scan_read (chars text) best.0 scanned in
          let cut = cut_characters (characters_of best.0) read.rest text utf8 read.joined in
          let bound = longest.longest best.0 read.formed cut.front_bytes in
          let more = more_bytes (characters_of lexeme) (characters_of best.0) here.0 read.rest (sym here.1 ∙ read.joined) longer in
          absurd (omega arith)
    ]

-- what is found is the longest
pub scanned_longest : (text : List ℕ) (lexeme : Lexeme) → IsUtf8 text → scan (chars text) ≡ Some lexeme → IsLongest text lexeme
scanned_longest text lexeme utf8 scanned =
    let read = scan_read (chars text) lexeme scanned in
    let cut = cut_characters (characters_of lexeme) read.rest text utf8 read.joined in
    record {
      formed = read.formed;
      stands = cut.front_bytes;
      longest = λ other formed stands.
          let there = begun text other utf8 stands in
          let best = scan_best other there.0 formed in
          let found : Some best.0 ≡ Some lexeme = sym best.1 ∙ ap scan (sym there.1) ∙ scanned in
          let named : best.0 ≡ lexeme = cc in
          elim best.2 [
            | inl same ↦ let e : other ≡ lexeme = sym same ∙ named in rw e (omega arith)
            | inr longer ↦
                let less : length (characters_of other) < length (characters_of lexeme) = rw named at longer in
                let more = more_bytes (characters_of other) (characters_of lexeme) there.0 read.rest (sym there.1 ∙ read.joined) less in
                omega arith
          ];
    }

-- where none is found none stands
pub none_stands : (text : List ℕ) → IsUtf8 text → scan (chars text) ≡ None → (lexeme : Lexeme) → IsLexeme lexeme → Begins lexeme text → ⊥
none_stands text utf8 none lexeme formed stands =
    let here = begun text lexeme utf8 stands in
    let best = scan_best lexeme here.0 formed in
    let both : None ≡ Some best.0 = sym none ∙ ap scan here.1 ∙ best.1 in
    cc

-- and the other way round
pub none_found : (text : List ℕ) → IsUtf8 text → ((lexeme : Lexeme) → IsLexeme lexeme → Begins lexeme text → ⊥) → scan (chars text) ≡ None
none_found text utf8 none = go (scan (chars text)) refl
  where
    go : (found : Option Lexeme) → scan (chars text) ≡ found → found ≡ None
    go None e = refl
    go (Some lexeme) e = let longest = scanned_longest text lexeme utf8 e in absurd (none lexeme longest.formed longest.stands)

-- a character that begins an identifier is none that doesn't
apart : (c d : ℕ) → begins_identifier d ≡ false → begins_identifier c ≡ true → (c == d) ≡ false
apart c d none begins = false_from_ne_true (c == d)
    (λ same. let is = eqb-true c d same in false≢true (sym none ∙ ap begins_identifier (sym is) ∙ begins))

name_no_gap : (c : ℕ) (cs : List ℕ) → begins_identifier c ≡ true → begins_gap (c ∷ cs) ≡ false
unfolding unicode_ident
name_no_gap c cs begins =
    let e32 = apart c 32 refl begins in
    let e9 = apart c 9 refl begins in
    let e10 = apart c 10 refl begins in
    let e13 = apart c 13 refl begins in
    let e47 = apart c 47 refl begins in
    rw (e32, e9, e10, e13, e47) refl

digit_no_gap : (c : ℕ) (cs : List ℕ) → is_digit Decimal c ≡ true → begins_gap (c ∷ cs) ≡ false
digit_no_gap c cs digit =
    let no_blank : is_blank c ≡ false = grind (arith, nat_tests) in
    let no_slash : (c == 47) ≡ false = grind (arith, nat_tests) in
    rw (no_blank, no_slash) refl

mark_no_gap : (m : Mark) (more : List ℕ) → begins_gap (mark_text m ++ more) ≡ false
mark_no_gap OpenBrace more = refl
mark_no_gap m more = refl

-- a lexeme begins with neither a blank nor a comment
pub lexeme_no_gap : (lexeme : Lexeme) (more : List ℕ) → IsLexeme lexeme → begins_gap (characters_of lexeme ++ more) ≡ false
lexeme_no_gap (identifier c others) more formed = name_no_gap c (others ++ more) formed.0
lexeme_no_gap (number []) more formed = absurd (omega (arith, formed.0))
lexeme_no_gap (number (d ∷ ds)) more formed = digit_no_gap d (ds ++ more) formed.1.0
lexeme_no_gap (literal [] base digits) more formed = absurd (omega (arith, formed.0.0))
lexeme_no_gap (literal (w ∷ ws) base digits) more formed = digit_no_gap w ((ws ++ (39 ∷ letter base ∷ digits)) ++ more) formed.0.1.0
lexeme_no_gap (mark m) more formed = mark_no_gap m more
