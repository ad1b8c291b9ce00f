-- The text of a number, as tokens have it: its digits go on with an identifier, they are digits, they spell the number, and their
-- bytes are their characters.
--
-- An induction on the number by its last digit.
use Rattle.std.proofs.Common.{◌≡◌, ℕ, zero, suc, ◌+◌, ◌*◌, ◌%◌, ◌^◌, ◌<◌, Bool, true, List, [], ◌∷◌, ◌++◌, refl, ◌∙◌, arith, mod-lt}
use Rattle.std.specs.Fmt.{decimal}
use Rattle.std.specs.Char.{digit_value, is_ascii_digit}
use Rattle.std.specs.Str.{encode_utf8_all}
use Rattle.std.proofs.lemmas.Fmt.{decimal_by_steps, IsAscii-decimal}
use Rattle.std.proofs.lemmas.Str.{encodes-IsAscii}
use Rattle.unicode_ident.proofs.Computing.{unicode_ident}
use Rattle.anvil_lexer.specs.Characters.{continues_identifier, radix, value_after, value_of}
use Rattle.anvil_lexer.proofs.Fronts.{Passing}

-- the character of a digit
abbrev IsDigitOf : ℕ → ℕ → Type 0
IsDigitOf d c = (is_ascii_digit c ≡ true) × (continues_identifier c ≡ true) × (digit_value c ≡ d)

digit_is : (d : ℕ) → d < 10 → IsDigitOf d (48 + d)
unfolding unicode_ident
digit_is zero small = (refl, refl, refl)
digit_is (suc zero) small = (refl, refl, refl)
digit_is (suc (suc zero)) small = (refl, refl, refl)
digit_is (suc (suc (suc zero))) small = (refl, refl, refl)
digit_is (suc (suc (suc (suc zero)))) small = (refl, refl, refl)
digit_is (suc (suc (suc (suc (suc zero))))) small = (refl, refl, refl)
digit_is (suc (suc (suc (suc (suc (suc zero)))))) small = (refl, refl, refl)
digit_is (suc (suc (suc (suc (suc (suc (suc zero))))))) small = (refl, refl, refl)
digit_is (suc (suc (suc (suc (suc (suc (suc (suc zero)))))))) small = (refl, refl, refl)
digit_is (suc (suc (suc (suc (suc (suc (suc (suc (suc zero))))))))) small = (refl, refl, refl)
digit_is (suc (suc (suc (suc (suc (suc (suc (suc (suc (suc d)))))))))) small = absurd (omega (arith, small))

passing_more : (passes : ℕ → Bool) (cs : List ℕ) (c : ℕ) → Passing passes cs → passes c ≡ true → Passing passes (cs ++ c ∷ [])
passing_more passes [] c all last = (last, tt)
passing_more passes (first ∷ cs) c all last = (all.0, passing_more passes cs c all.1 last)

-- what holds of each digit's character
passing_digits : (passes : ℕ → Bool) → ((d : ℕ) → d < 10 → passes (48 + d) ≡ true) → (n : ℕ) → n < 2 ^ 64 → Passing passes (decimal n)
passing_digits passes each = decimal_by_steps (λ n digits. Passing passes digits) (λ n small. (each n small, tt))
    (λ n digits large before. passing_more passes digits (48 + n % 10) before (each (n % 10) (mod-lt n (omega arith))))

pub decimal_digits : (n : ℕ) → n < 2 ^ 64 → Passing is_ascii_digit (decimal n)
decimal_digits = passing_digits is_ascii_digit (λ d small. (digit_is d small).0)

pub decimal_continues : (n : ℕ) → n < 2 ^ 64 → Passing continues_identifier (decimal n)
decimal_continues = passing_digits continues_identifier (λ d small. (digit_is d small).1)

pub decimal_bytes : (n : ℕ) → n < 2 ^ 64 → encode_utf8_all (decimal n) ≡ decimal n
decimal_bytes n small = encodes-IsAscii (decimal n) (IsAscii-decimal n small)

-- the number that digits spell in a base of ten digits; the type of bases is private to the lexer, so `_` stands for it
value_more : (base : _) → radix base ≡ 10 → (before : ℕ) (cs : List ℕ) (c : ℕ)
    → value_after base before (cs ++ c ∷ []) ≡ value_after base before cs * 10 + digit_value c
value_more base ten before [] c = rw ten refl
value_more base ten before (first ∷ cs) c = value_more base ten (before * radix base + digit_value first) cs c

pub decimal_value : (base : _) → radix base ≡ 10 → (n : ℕ) → n < 2 ^ 64 → value_of base (decimal n) ≡ n
decimal_value base ten = decimal_by_steps (λ n digits. value_of base digits ≡ n)
    (λ n small. omega (arith, (digit_is n small).2))
    (λ n digits large before. value_more base ten 0 digits (48 + n % 10) ∙ omega (arith, before, (digit_is (n % 10) (mod-lt n (omega arith))).2))
