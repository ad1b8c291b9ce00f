-- Numbers and literals: what the reader makes of a text that begins with digits is well formed and stands at its front, and
-- each number or literal that stands there is the one that is read or is shorter. For a literal, the digits of its width end
-- at its `'`, so the reader comes to the same `'`, the same base, and at least the same digits.
use Rattle.std.proofs.Common.{◌≡◌, ℕ, ◌<◌, true, List, [], ◌∷◌, ◌++◌, refl, ap, Option, Some, None, length, arith, sym, ◌∙◌, ◌⊎◌, inl, inr, ◌==◌, subst, append_assoc}
use Rattle.std.proofs.lemmas.List.{length-append, append-nil}
use Rattle.std.proofs.lemmas.Bool.{cases_Bool, eqb-true}
use Rattle.anvil_lexer.specs.declared.class.Base.{Base}
use Rattle.anvil_lexer.specs.declared.class.Base.TheVariants.{Decimal, Hexadecimal, Binary}
use Rattle.anvil_lexer.specs.Characters.{is_digit, letter}
use Rattle.anvil_lexer.specs.Lexeme.{Lexeme, number, literal, characters_of, AreDigits, IsLexeme}
use Rattle.anvil_lexer.specs.Scan.{front, after_front, base_of, some_digits, digits_in, literal_end, ended_by, numeral}
use Rattle.anvil_lexer.proofs.Fronts.{front_joined, front_passes, front_append, after_front_append}
use Rattle.anvil_lexer.proofs.Marks.{IsBest}

base_of_letter : (base : Base) → base_of (letter base) ≡ Some base
base_of_letter Decimal = refl
base_of_letter Hexadecimal = refl
base_of_letter Binary = refl

pub letter_of_base : (c : ℕ) (base : Base) → base_of c ≡ Some base → c ≡ letter base
letter_of_base c base found =
    elim (cases_Bool (c == 100)) [
      | inl is_d ↦
          let read : Some Decimal ≡ Some base = rw is_d at found in
          let named : Decimal ≡ base = cc in
          eqb-true c 100 is_d ∙ ap letter named
      | inr not_d ↦
          elim (cases_Bool (c == 104)) [
            | inl is_h ↦
                let read : Some Hexadecimal ≡ Some base = rw (not_d, is_h) at found in
                let named : Hexadecimal ≡ base = cc in
                eqb-true c 104 is_h ∙ ap letter named
            | inr not_h ↦
                elim (cases_Bool (c == 98)) [
                  | inl is_b ↦
                      let read : Some Binary ≡ Some base = rw (not_d, not_h, is_b) at found in
                      let named : Binary ≡ base = cc in
                      eqb-true c 98 is_b ∙ ap letter named
                  | inr not_b ↦ let read : None ≡ Some base = rw (not_d, not_h, not_b) at found in absurd cc
                ]
          ]
    ]

-- the end of a literal at the front of what follows its width
pub record IsEnd (after : List ℕ) (base : Base) (digits : List ℕ) : Type 0 where
  pub rest : List ℕ
  pub joined : after ≡ 39 ∷ letter base ∷ (digits ++ rest)
  pub are_digits : AreDigits base digits

some_digits_read : (base : Base) (ds : List ℕ) (end : Base × List ℕ) → some_digits base ds ≡ Some end → (end ≡ (base, ds)) × (0 < length ds)
some_digits_read base [] end found = absurd cc
some_digits_read base (d ∷ ds) end found = (cc, omega arith)

digits_read : (c : ℕ) (cs : List ℕ) (named : Option Base) (end : Base × List ℕ) → base_of c ≡ named
    → digits_in named cs ≡ Some end → IsEnd (39 ∷ c ∷ cs) end.0 end.1
digits_read c cs None end is found = absurd cc
digits_read c cs (Some base) end is found =
    let read = some_digits_read base (front (is_digit base) cs) end found in
    let whole : IsEnd (39 ∷ c ∷ cs) base (front (is_digit base) cs) =
    record {
      rest = after_front (is_digit base) cs;
      joined = rw (sym (letter_of_base c base is)) (ap (λ l. 39 ∷ c ∷ l) (sym (front_joined (is_digit base) cs)));
      are_digits = (read.1, front_passes (is_digit base) cs);
    } in
    subst (λ (e : Base × List ℕ). IsEnd (39 ∷ c ∷ cs) e.0 e.1) (sym read.0) whole

literal_end_read : (after : List ℕ) (end : Base × List ℕ) → literal_end after ≡ Some end → IsEnd after end.0 end.1
literal_end_read [] end found = absurd cc
literal_end_read (q ∷ []) end found = absurd cc
literal_end_read (q ∷ c ∷ cs) end found =
    elim (cases_Bool (q == 39)) [
      | inl quote ↦ rw (eqb-true q 39 quote) (digits_read c cs (base_of c) end refl (rw quote at found))
      | inr other ↦ let none : None ≡ Some end = rw other at found in absurd cc
    ]

-- what is read of digits stands at the front, and is well formed
pub record IsRead (cs : List ℕ) (found : Lexeme) : Type 0 where
  pub formed : IsLexeme found
  pub rest : List ℕ
  pub joined : cs ≡ characters_of found ++ rest

ended_read : (cs : List ℕ) (end : Option (Base × List ℕ)) → 0 < length (front (is_digit Decimal) cs)
    → literal_end (after_front (is_digit Decimal) cs) ≡ end
    → IsRead cs (ended_by (front (is_digit Decimal) cs) end)
ended_read cs None some is = record {
  formed = (some, front_passes (is_digit Decimal) cs);
  rest = after_front (is_digit Decimal) cs;
  joined = sym (front_joined (is_digit Decimal) cs);
}
ended_read cs (Some end) some is =
    let read = literal_end_read (after_front (is_digit Decimal) cs) end is in
    record {
      formed = ((some, front_passes (is_digit Decimal) cs), read.are_digits);
      rest = read.rest;
      joined = sym (front_joined (is_digit Decimal) cs) ∙ ap (λ l. front (is_digit Decimal) cs ++ l) read.joined
          ∙ sym (append_assoc (front (is_digit Decimal) cs) (39 ∷ letter end.0 ∷ end.1) read.rest);
    }

pub numeral_read : (c : ℕ) (cs : List ℕ) → is_digit Decimal c ≡ true → IsRead (c ∷ cs) (numeral (c ∷ cs))
numeral_read c cs digit =
    let begins = front_append (is_digit Decimal) (c ∷ []) cs (digit, tt) in
    ended_read (c ∷ cs) (literal_end (after_front (is_digit Decimal) (c ∷ cs))) (rw begins (omega arith)) refl

-- no number or literal at the front is longer
longer : (digits width : List ℕ) (more : List ℕ) (end : Option (Base × List ℕ)) → width ≡ digits ++ more
    → (ended_by width end ≡ number digits) ⊎ (length digits < length (characters_of (ended_by width end)))
longer digits width [] None is = inl (ap number (is ∙ append-nil digits))
longer digits width (m ∷ more) None is = inr (rw (is, length-append digits (m ∷ more)) (omega arith))
longer digits width more (Some end) is = inr
    (rw (length-append width (39 ∷ letter end.0 ∷ end.1), is, length-append digits more) (omega arith))

pub number_best : (digits more : List ℕ) → AreDigits Decimal digits → IsBest (number digits) (Some (numeral (digits ++ more)))
number_best digits more are = (
  numeral (digits ++ more),
  refl,
  longer digits (front (is_digit Decimal) (digits ++ more)) (front (is_digit Decimal) more)
      (literal_end (after_front (is_digit Decimal) (digits ++ more))) (front_append (is_digit Decimal) digits more are.1),
)

digits_found : (base : Base) (ds : List ℕ) → 0 < length ds → some_digits base ds ≡ Some (base, ds)
digits_found base [] some = absurd (omega arith)
digits_found base (d ∷ ds) some = refl

longer_literal : (width : List ℕ) (base : Base) (digits more : List ℕ)
    → (literal width base (digits ++ more) ≡ literal width base digits) ⊎
    (length (characters_of (literal width base digits)) < length (characters_of (literal width base (digits ++ more))))
longer_literal width base digits [] = inl (ap (literal width base) (append-nil digits))
longer_literal width base digits (m ∷ more) =
    inr (rw (
      length-append width (39 ∷ letter base ∷ digits),
      length-append width (39 ∷ letter base ∷ (digits ++ (m ∷ more))),
      length-append digits (m ∷ more),
    ) (omega arith))

pub literal_best : (width : List ℕ) (base : Base) (digits more : List ℕ) → AreDigits Decimal width → AreDigits base digits
    → IsBest (literal width base digits) (Some (numeral (characters_of (literal width base digits) ++ more)))
literal_best width base digits more are_width are_digits =
    let after = 39 ∷ letter base ∷ (digits ++ more) in
    let text : characters_of (literal width base digits) ++ more ≡ width ++ after = append_assoc width (39 ∷ letter base ∷ digits) more in
    let width_is : front (is_digit Decimal) (width ++ after) ≡ width =
    front_append (is_digit Decimal) width after are_width.1 ∙ append-nil width in
    let after_is : after_front (is_digit Decimal) (width ++ after) ≡ after = after_front_append
    (is_digit Decimal) width after are_width.1 in
    let digits_are = front_append (is_digit base) digits more are_digits.1 in
    let found : literal_end after ≡ Some (base, digits ++ front (is_digit base) more) =
    rw (base_of_letter base, digits_are)
    (digits_found base (digits ++ front (is_digit base) more) (rw (length-append digits (front (is_digit base) more)) (omega arith))) in (
      literal width base (digits ++ front (is_digit base) more),
      rw (text, width_is, after_is, found) refl,
      longer_literal width base digits (front (is_digit base) more),
    )
