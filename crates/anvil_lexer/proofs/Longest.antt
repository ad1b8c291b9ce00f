-- The reader finds the longest lexeme. What it finds is well formed and stands at the front of the text; each lexeme that
-- stands there is the one that is found, or is shorter. The first character tells the sort: a character that begins an
-- identifier is no digit, and neither begins a mark; so only lexemes of one sort are compared.
use Rattle.std.proofs.Common.{◌≡◌, ℕ, ◌<◌, true, false, List, [], ◌∷◌, ◌++◌, refl, ap, Option, Some, None, length, take, drop, arith, sym, ◌∙◌, ◌⊎◌, inl, inr, subst, take-append-drop, ◌==◌}
use Rattle.std.proofs.lemmas.List.{length-append, append-nil}
use Rattle.std.proofs.lemmas.Bool.{cases_Bool}
use Rattle.std.proofs.lemmas.Bool.Decides.{nat_tests}
use Rattle.std.specs.Str.{encode_utf8_all}
use Rattle.std.specs.Char.{is_ascii_alphabetic}
use Rattle.unicode_ident.proofs.IdentLemmas.{is_xid_start-ascii}
use Rattle.anvil_lexer.specs.declared.class.Base.TheVariants.{Decimal}
use Rattle.anvil_lexer.specs.declared.token.Mark.{Mark}
use Rattle.anvil_lexer.specs.Characters.{begins_identifier, continues_identifier, is_digit}
use Rattle.anvil_lexer.specs.Lexeme.{Lexeme, identifier, number, literal, mark, characters_of, IsLexeme}
use Rattle.anvil_lexer.specs.Scan.{front, after_front, numeral, mark_spelled, first_mark, mark_at, scan}
use Rattle.anvil_lexer.proofs.Fronts.{front_joined, front_passes, front_append}
use Rattle.anvil_lexer.proofs.Marks.{IsBest, mark_read, mark_scanned, mark_best}
use Rattle.anvil_lexer.proofs.Numerals.{IsRead, numeral_read, number_best, literal_best}

-- a digit begins no identifier
digit_apart : (c : ℕ) → is_digit Decimal c ≡ true → begins_identifier c ≡ false
digit_apart c digit =
    let low : c < 128 = grind (arith, nat_tests) in
    let no_letter : is_ascii_alphabetic c ≡ false = grind (arith, nat_tests) in
    let no_line : (c == 95) ≡ false = grind (arith, nat_tests) in
    rw (no_line, is_xid_start-ascii c low, no_letter) refl

pub identifier_scanned : (c : ℕ) (cs : List ℕ) → begins_identifier c ≡ true
    → scan (c ∷ cs) ≡ Some (identifier c (front continues_identifier cs))
unfolding scan
identifier_scanned c cs begins = rw begins refl

pub digits_scanned : (c : ℕ) (cs : List ℕ) → is_digit Decimal c ≡ true → scan (c ∷ cs) ≡ Some (numeral (c ∷ cs))
unfolding scan
digits_scanned c cs digit = rw (digit_apart c digit, digit) refl

pub other_scanned : (c : ℕ) (cs : List ℕ) → begins_identifier c ≡ false → is_digit Decimal c ≡ false → scan (c ∷ cs) ≡ mark_at (c ∷ cs)
unfolding scan
other_scanned c cs no_name no_digit = rw (no_name, no_digit) refl

mark_at_read : (cs : List ℕ) (long short : Option Mark) → mark_spelled (encode_utf8_all (take 2 cs)) ≡ long
    → mark_spelled (encode_utf8_all (take 1 cs)) ≡ short
    → (found : Lexeme) → first_mark long short ≡ Some found → IsRead cs found
mark_at_read cs (Some m) short is_long is_short found e =
    let named : mark m ≡ found = cc in
    subst (IsRead cs) named (record {
      formed = tt;
      rest = drop 2 cs;
      joined = sym (take-append-drop 2 cs) ∙ ap (λ l. l ++ drop 2 cs)
          (mark_read (take 2 cs) m is_long);
    })
mark_at_read cs None (Some m) is_long is_short found e =
    let named : mark m ≡ found = cc in
    subst (IsRead cs) named (record {
      formed = tt;
      rest = drop 1 cs;
      joined = sym (take-append-drop 1 cs) ∙ ap (λ l. l ++ drop 1 cs)
          (mark_read (take 1 cs) m is_short);
    })
mark_at_read cs None None is_long is_short found e = absurd cc

-- what is found is well formed and stands at the front
pub scan_read : (cs : List ℕ) (found : Lexeme) → scan cs ≡ Some found → IsRead cs found
unfolding scan
scan_read [] found e = absurd cc
scan_read (c ∷ cs) found e =
    elim (cases_Bool (begins_identifier c)) [
      | inl begins ↦
          let is : Some (identifier c (front continues_identifier cs)) ≡ Some found = sym (identifier_scanned c cs begins) ∙ e in
          let named : identifier c (front continues_identifier cs) ≡ found = cc in
          subst (IsRead (c ∷ cs)) named (record {
            formed = (begins, front_passes continues_identifier cs);
            rest = after_front continues_identifier cs;
            joined = ap (λ l. c ∷ l) (sym (front_joined continues_identifier cs));
          })
      | inr no_name ↦
          elim (cases_Bool (is_digit Decimal c)) [
            | inl digit ↦
                let is : Some (numeral (c ∷ cs)) ≡ Some found = sym (digits_scanned c cs digit) ∙ e in
                let named : numeral (c ∷ cs) ≡ found = cc in
                subst (IsRead (c ∷ cs)) named (numeral_read c cs digit)
            | inr no_digit ↦ mark_at_read (c ∷ cs) _ _ refl refl found (sym (other_scanned c cs no_name no_digit) ∙ e)
          ]
    ]

best_same : (other : Lexeme) (r s : Option Lexeme) → r ≡ s → IsBest other s → IsBest other r
best_same other r s e best = subst (IsBest other) (sym e) best

longer_name : (c : ℕ) (others more : List ℕ)
    → (identifier c (others ++ more) ≡ identifier c others) ⊎ (length (c ∷ others) < length (c ∷ (others ++ more)))
longer_name c others [] = inl (ap (identifier c) (append-nil others))
longer_name c others (m ∷ more) = inr (rw (length-append others (m ∷ more)) (omega arith))

-- each lexeme at the front is the one that is found, or shorter
pub scan_best : (other : Lexeme) (more : List ℕ) → IsLexeme other → IsBest other (scan (characters_of other ++ more))
scan_best (identifier c others) more formed = (
  identifier c (others ++ front continues_identifier more),
  identifier_scanned c (others ++ more) formed.0 ∙ ap (λ l. Some (identifier c l)) (front_append continues_identifier others more formed.1),
  longer_name c others (front continues_identifier more),
)
scan_best (number []) more formed = absurd (omega (arith, formed.0))
scan_best (number (d ∷ ds)) more formed =
    best_same (number (d ∷ ds)) _ _ (digits_scanned d (ds ++ more) formed.1.0) (number_best (d ∷ ds) more formed)
scan_best (literal [] base digits) more formed = absurd (omega (arith, formed.0.0))
scan_best (literal (w ∷ ws) base digits) more formed =
    best_same (literal (w ∷ ws) base digits) _ _ (digits_scanned w _ formed.0.1.0)
    (literal_best (w ∷ ws) base digits more formed.0 formed.1)
scan_best (mark m) more formed = best_same (mark m) _ _ (mark_scanned m more) (mark_best m more)
