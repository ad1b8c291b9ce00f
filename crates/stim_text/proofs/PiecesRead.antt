-- Pieces of a line: what is read is what stands there, and what is written is read back.
use Rattle.std.proofs.Common.{◌≡◌, ℕ, ◌+◌, ◌<◌, ◌^◌, Bool, true, false, cond, ◌&&◌, List, [], ◌∷◌, ◌++◌, drop, length, suc, Option, Some, None, refl, ap, sym, ◌∙◌, arith}
use Rattle.std.proofs.Math.Seq.{take-append_seam}
use Rattle.std.proofs.lemmas.List.{take-append-drop}
use Rattle.std.proofs.lemmas.List.Prefix.{front_rest}
use Rattle.std.proofs.lemmas.Bool.Decides.{nat_tests}
use Rattle.std.proofs.lemmas.Fmt.{decimal_is_IsNumeral}
use Rattle.std.proofs.lemmas.Str.Parse.{digit_from_value}
use Rattle.std.proofs.lemmas.Grind.{common_steps}
use Rattle.std.specs.Prelude.{◌==◌, nat_lt, bytes_eq, decimal}
use Rattle.std.specs.Str.Parse.{AllDigits, digits_value}
use Rattle.std.specs.Char.{is_ascii_digit, digit_value}
use Rattle.std.specs.List.{prefix_len}
use Rattle.core_term.specs.LogText.{bit_text}
use Rattle.stim_text.specs.Pieces.{after_byte, bit_by, bit_at, digits_of, after_digits, number_at}
use Rattle.stim_text.proofs.Decided.{some_same, passes, both, bytes_same, same_bytes, number_same}

-- A byte.

pub after_byte_read : (byte : ℕ) (text rest : List ℕ) → after_byte byte text ≡ Some rest → text ≡ byte ∷ rest
after_byte_read byte [] rest is = absurd cc
after_byte_read byte (first ∷ text) rest is =
    let passed = passes (first == byte) text rest is in
    let same = number_same first byte passed.holds in
    let later = passed.same in
    cc

-- A bit.

pub bit_read : (text : List ℕ) (bit : Bool) (rest : List ℕ) → bit_at text ≡ Some (bit, rest) → text ≡ bit_text bit ++ rest
bit_read [] bit rest is = absurd cc
bit_read (first ∷ text) bit rest is = by_case (first == 48) refl (first == 49) refl is
  where
    by_case : (zero_there : Bool) → (first == 48) ≡ zero_there → (one_there : Bool) → (first == 49) ≡ one_there
        → cond {A = Option (Bool × List ℕ)} zero_there (Some (false, text)) (cond {A = Option (Bool × List ℕ)} one_there (Some (true, text)) None) ≡ Some (bit, rest) → first ∷ text ≡ bit_text bit ++ rest
    by_case true test other there is =
        let same = number_same first 48 test in
        let zero_bit : Bool × List ℕ = (false, text) in
        let pair : zero_bit ≡ (bit, rest) = some_same is in
        let is_bit : false ≡ bit = ap (λ (found : Bool × List ℕ). found.0) pair in
        let is_rest : text ≡ rest = ap (λ (found : Bool × List ℕ). found.1) pair in
        rw (same, is_rest, ← is_bit) refl
    by_case false test true there is =
        let same = number_same first 49 there in
        let one_bit : Bool × List ℕ = (true, text) in
        let pair : one_bit ≡ (bit, rest) = some_same is in
        let is_bit : true ≡ bit = ap (λ (found : Bool × List ℕ). found.0) pair in
        let is_rest : text ≡ rest = ap (λ (found : Bool × List ℕ). found.1) pair in
        rw (same, is_rest, ← is_bit) refl
    by_case false test false there is = absurd cc

pub bit_back : (bit : Bool) (rest : List ℕ) → bit_at (bit_text bit ++ rest) ≡ Some (bit, rest)
bit_back true rest = refl
bit_back false rest = refl

-- Runs of digits.

abbrev pub AllPass : List ℕ → Type 0
AllPass [] = Unit {0}
AllPass (c ∷ cs) = (is_ascii_digit c ≡ true) × AllPass cs

abbrev pub StopsFirst : List ℕ → Type 0
StopsFirst [] = Unit {0}
StopsFirst (c ∷ cs) = is_ascii_digit c ≡ false

digits_joined : (text : List ℕ) → text ≡ digits_of text ++ after_digits text
digits_joined text = sym (take-append-drop (prefix_len is_ascii_digit text) text)

count_digits : (front rest : List ℕ) → AllPass front → StopsFirst rest → prefix_len is_ascii_digit (front ++ rest) ≡ length front
count_digits [] [] pass stops = refl
count_digits [] (c ∷ cs) pass stops = rw stops refl
count_digits (d ∷ front) rest pass stops =
    let one_more : 1 + length front ≡ suc (length front) = omega arith in
    rw (pass.0) (ap (λ n. 1 + n) (count_digits front rest pass.1 stops) ∙ one_more)

digits_back : (front rest : List ℕ) → AllPass front → StopsFirst rest → digits_of (front ++ rest) ≡ front
digits_back front rest pass stops = rw (count_digits front rest pass stops) (take-append_seam front rest)

rest_back : (front rest : List ℕ) → AllPass front → StopsFirst rest → after_digits (front ++ rest) ≡ rest
rest_back front rest pass stops = rw (count_digits front rest pass stops) (front_rest (front ++ rest) front rest refl)

digit_passes : (c : ℕ) → digit_value c < 10 → is_ascii_digit c ≡ true
digit_passes c below = let value = digit_from_value c below in grind (arith, common_steps, nat_tests)

digits_pass : (digits : List ℕ) → AllDigits 10 digits → AllPass digits
digits_pass [] all = tt
digits_pass (d ∷ digits) all = (digit_passes d all.0, digits_pass digits all.1)

pub decimal_passes : (n : ℕ) → n < 2 ^ 64 → AllPass (decimal n)
decimal_passes n small = digits_pass (decimal n) (decimal_is_IsNumeral n small).0.1

-- Numbers.

pub record NumberRead (text : List ℕ) (number : ℕ) (rest : List ℕ) : Type 0 where
  pub written : text ≡ decimal number ++ rest
  pub below : nat_lt number (2 ^ 64) ≡ true
  pub digits : digits_of text ≡ decimal number

pub number_read : (text : List ℕ) (found : ℕ × List ℕ) → number_at text ≡ Some found → NumberRead text found.0 found.1
number_read text found is =
    let digits = digits_of text in
    let value = digits_value 10 digits in
    let passed = passes (nat_lt value (2 ^ 64) && bytes_eq (decimal value) digits) (value, after_digits text) found is in
    let tests = both (nat_lt value (2 ^ 64)) (bytes_eq (decimal value) digits) passed.holds in
    let same = bytes_same (decimal value) digits tests.other_holds in
    let joined = digits_joined text in
    let is_number : value ≡ found.0 = ap (λ (x : ℕ × List ℕ). x.0) passed.same in
    let is_rest : after_digits text ≡ found.1 = ap (λ (x : ℕ × List ℕ). x.1) passed.same in
    record {
      written = rw (← is_number, ← is_rest, same) joined;
      below = rw (← is_number) tests.one_holds;
      digits = rw (← is_number) (sym same);
    }

pub number_back : (number : ℕ) (rest : List ℕ) → number < 2 ^ 64 → StopsFirst rest → number_at (decimal number ++ rest) ≡ Some (number, rest)
number_back number rest small stops =
    let below : nat_lt number (2 ^ 64) ≡ true = grind (arith, nat_tests) in
    let pass = decimal_passes number small in
    let front = digits_back (decimal number) rest pass stops in
    let left = rest_back (decimal number) rest pass stops in
    let value = (decimal_is_IsNumeral number small).1 in
    rw (front, left, value, below, same_bytes (decimal number)) refl
