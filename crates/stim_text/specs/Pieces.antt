-- The pieces of a line, read from its front: each as a function that gives the piece and what stands after it, or nothing.
use Rattle.std.specs.Prelude.{ℕ, ◌==◌, ◌^◌, ◌&&◌, nat_lt, Bool, true, false, List, [], ◌∷◌, take, drop, bytes_eq, decimal, Option, Some, None, if◌then◌else◌}
use Rattle.std.specs.Char.{is_ascii_digit}
use Rattle.std.specs.List.{prefix_len}
use Rattle.std.specs.Str.Parse.{digits_value}

infixl 20 ◌>>=◌
-- what is read, and what is read of it next
abbrev pub ◌>>=◌ : {A B : Type 0} → Option A → (A → Option B) → Option B
None >>= next = None
Some found >>= next = next found

-- what stands after a byte
abbrev pub after_byte : (byte : ℕ) → List ℕ → Option (List ℕ)
after_byte byte [] = None
after_byte byte (first ∷ rest) = if first == byte then Some rest else None

-- `0` or `1`
abbrev pub bit_by : ℕ → List ℕ → Option (Bool × List ℕ)
bit_by first rest = if first == 48 then Some (false, rest) else (if first == 49 then Some (true, rest) else None)

abbrev pub bit_at : List ℕ → Option (Bool × List ℕ)
bit_at [] = None
bit_at (first ∷ rest) = bit_by first rest

-- the longest front of digits
abbrev pub digits_of : List ℕ → List ℕ
digits_of text = take (prefix_len is_ascii_digit text) text

abbrev pub after_digits : List ℕ → List ℕ
after_digits text = drop (prefix_len is_ascii_digit text) text

-- a decimal number below 2 ^ 64 without leading zeros
abbrev pub number_by : (digits rest : List ℕ) → (number : ℕ) → Option (ℕ × List ℕ)
number_by digits rest number = if nat_lt number (2 ^ 64) && bytes_eq (decimal number) digits then Some (number, rest) else None

abbrev pub number_at : List ℕ → Option (ℕ × List ℕ)
number_at text = number_by (digits_of text) (after_digits text) (digits_value 10 (digits_of text))
