-- Which bytes stand in names, numbers and operands: each byte passes a test, so no line feed, no underscore or no byte that
-- ends an operand stands among them.
use Rattle.std.proofs.Common.{◌≡◌, ℕ, ◌<◌, ◌^◌, Bool, true, false, not, ◌&&◌, ◌||◌, List, [], ◌∷◌, ◌++◌, refl, sym, ◌∙◌}
use Rattle.std.proofs.lemmas.Bool.{and_parts}
use Rattle.std.proofs.lemmas.List.Folds.{list_all-append}
use Rattle.std.specs.Prelude.{◌==◌, decimal}
use Rattle.std.specs.Int.{is_in_range}
use Rattle.std.specs.Char.{is_ascii_digit, is_ascii_alphanumeric}
use Rattle.std.specs.List.{list_all}
use Rattle.anvil_lexer.specs.GoodName.{is_name_byte}
use Rattle.sv_lines.specs.Operands.{is_operand_byte}
use Rattle.sv_lines.proofs.read.Decided.{number_same}
use Rattle.sv_lines.proofs.read.PiecesRead.{AllPass, decimal_passes}
use Rattle.sv_lines.proofs.back.Goes.{is_quiet_byte, Quiet}

pub both_hold : (one other : Bool) → one ≡ true → other ≡ true → (one && other) ≡ true
both_hold one other first second = rw first second

pub all_pass : (test : ℕ → Bool) (text : List ℕ) → list_all test text ≡ true → AllPass test text
all_pass test [] all = tt
all_pass test (byte ∷ text) all =
    let parts = and_parts (test byte) (list_all test text) all in
    (parts.0, all_pass test text parts.1)

pub all_hold : (test : ℕ → Bool) (text : List ℕ) → AllPass test text → list_all test text ≡ true
all_hold test [] all = refl
all_hold test (byte ∷ text) all = both_hold (test byte) (list_all test text) all.0 (all_hold test text all.1)

pub all_join : (test : ℕ → Bool) (front rest : List ℕ) → list_all test front ≡ true → list_all test rest ≡ true → list_all test (front ++ rest) ≡ true
all_join test front rest first second = list_all-append test front rest ∙ both_hold (list_all test front) (list_all test rest) first second

pub all_weaken : (test other : ℕ → Bool) → ((byte : ℕ) → test byte ≡ true → other byte ≡ true) → (text : List ℕ) → list_all test text ≡ true → list_all other text ≡ true
all_weaken test other step [] all = refl
all_weaken test other step (byte ∷ text) all =
    let parts = and_parts (test byte) (list_all test text) all in
    both_hold (other byte) (list_all other text) (step byte parts.0) (all_weaken test other step text parts.1)

-- a byte that passes a test that `bad` does not pass is not `bad`
abbrev pub is_not : (bad : ℕ) → ℕ → Bool
is_not bad byte = not (byte == bad)

is_not_by : (test : ℕ → Bool) (bad byte : ℕ) → test bad ≡ false → test byte ≡ true → (same : Bool) → (byte == bad) ≡ same → not same ≡ true
is_not_by test bad byte fails passes true e =
    let is_bad = number_same byte bad e in
    let clash : true ≡ false = sym passes ∙ (rw is_bad fails) in
    absurd cc
is_not_by test bad byte fails passes false e = refl

pub all_not : (test : ℕ → Bool) (bad : ℕ) → test bad ≡ false → (text : List ℕ) → list_all test text ≡ true → list_all (is_not bad) text ≡ true
all_not test bad fails text all = all_weaken test (is_not bad) (λ byte passes. is_not_by test bad byte fails passes (byte == bad) refl) text all

pub quiet_by : (test : ℕ → Bool) → test 10 ≡ false → (text : List ℕ) → list_all test text ≡ true → Quiet text
quiet_by test fails text all = all_not test 10 fails text all

pub quiet_join : (front rest : List ℕ) → Quiet front → Quiet rest → Quiet (front ++ rest)
quiet_join front rest first second = all_join is_quiet_byte front rest first second

-- Digits, bytes of names, and bytes of operands.

pub digits_all : (number : ℕ) → number < 2 ^ 64 → list_all is_ascii_digit (decimal number) ≡ true
digits_all number small = all_hold is_ascii_digit (decimal number) (decimal_passes number small)

or_more : (one other : Bool) → one ≡ true → (one || other) ≡ true
or_more one other e = rw e refl

digit_in_name : (byte : ℕ) → is_ascii_digit byte ≡ true → is_name_byte byte ≡ true
digit_in_name byte passes =
    or_more (is_ascii_alphanumeric byte) (byte == 95)
    (or_more (is_ascii_digit byte || is_in_range 65 90 byte) (is_in_range 97 122 byte) (or_more (is_ascii_digit byte) (is_in_range 65 90 byte) passes))

name_in_operand : (byte : ℕ) → is_name_byte byte ≡ true → is_operand_byte byte ≡ true
name_in_operand byte passes = or_more (is_name_byte byte) (byte == 39) passes

pub name_digits : (number : ℕ) → number < 2 ^ 64 → list_all is_name_byte (decimal number) ≡ true
name_digits number small = all_weaken is_ascii_digit is_name_byte digit_in_name (decimal number) (digits_all number small)

pub operand_name : (text : List ℕ) → list_all is_name_byte text ≡ true → list_all is_operand_byte text ≡ true
operand_name text all = all_weaken is_name_byte is_operand_byte name_in_operand text all

pub operand_digits : (number : ℕ) → number < 2 ^ 64 → list_all is_operand_byte (decimal number) ≡ true
operand_digits number small = operand_name (decimal number) (name_digits number small)

pub quiet_decimal : (number : ℕ) → number < 2 ^ 64 → Quiet (decimal number)
quiet_decimal number small = quiet_by is_ascii_digit refl (decimal number) (digits_all number small)

pub quiet_name : (name : List ℕ) → list_all is_name_byte name ≡ true → Quiet name
quiet_name name all = quiet_by is_name_byte refl name all

pub quiet_operand : (text : List ℕ) → list_all is_operand_byte text ≡ true → Quiet text
quiet_operand text all = quiet_by is_operand_byte refl text all
