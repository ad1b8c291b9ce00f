-- The pieces of a line, read from its front: each as a function that gives the piece and what stands after it, or
-- nothing.
use Rattle.std.specs.Prelude.{◌≡◌, ℕ, ◌+◌, ◌^◌, ◌==◌, nat_lt, ◌&&◌, Bool, List, [], ◌∷◌, take, drop, bytes_eq, codes, decimal, Option, Some, None, MatchOption, if◌then◌else◌}
use Rattle.std.specs.Char.{is_ascii_digit}
use Rattle.std.specs.List.{prefix_len}
use Rattle.std.specs.Str.Parse.{digits_value}
use Rattle.anvil_lexer.specs.GoodName.{begins_with_underscore}
use Rattle.sv_tree.specs.Limits.{widest}

infixl 20 ◌>>=◌
-- what is read, and what is read of it next
abbrev pub ◌>>=◌ : {A B : Type 0} → Option A → (A → Option B) → Option B
None >>= next = None
Some found >>= next = next found

-- the answer of a function is the wanted one, as it is seen
abbrev pub IsAnswer : {T V : Type 0} → (T → V) → Option V → Option T → Type 0
IsAnswer view wanted result = MatchOption result (wanted ≡ None) (λ found. wanted ≡ Some (view found))

-- what stands after a word
abbrev pub after : (word text : List ℕ) → Option (List ℕ)
after [] text = Some text
after (byte ∷ word) [] = None
after (byte ∷ word) (first ∷ text) = if byte == first then after word text else None

-- a value, where nothing but the word is left
abbrev pub closed : {X : Type 0} → (word : List ℕ) → X → List ℕ → Option X
closed word value rest = if bytes_eq rest word then Some value else None

-- the longest front of bytes that pass the test
abbrev pub front_run : (ℕ → Bool) → List ℕ → List ℕ
front_run test text = take (prefix_len test text) text

abbrev pub after_run : (ℕ → Bool) → List ℕ → List ℕ
after_run test text = drop (prefix_len test text) text

-- a decimal number below 2 ^ 64 without leading zeros
abbrev pub number_by : (digits rest : List ℕ) → (number : ℕ) → Option (ℕ × List ℕ)
number_by digits rest number =
    if nat_lt number (2 ^ 64) && bytes_eq (decimal number) digits then Some (number, rest) else None

abbrev pub number_at : List ℕ → Option (ℕ × List ℕ)
number_at text =
    number_by (front_run is_ascii_digit text) (after_run is_ascii_digit text)
    (digits_value 10 (front_run is_ascii_digit text))

-- what stands before the first `__`, and what stands after it
abbrev pub with_first : ℕ → Option (List ℕ × List ℕ) → Option (List ℕ × List ℕ)
with_first byte None = None
with_first byte (Some parts) = Some (byte ∷ parts.0, parts.1)

abbrev pub cut : List ℕ → Option (List ℕ × List ℕ)
cut [] = None
cut (byte ∷ rest) =
    if (byte == 95) && begins_with_underscore rest then Some ([], drop 1 rest) else with_first byte (cut rest)

-- a width: `H:0] `, H the width less one
abbrev pub range_by : (high : ℕ) → List ℕ → Option (ℕ × List ℕ)
range_by high rest = if nat_lt high widest then Some (high + 1, rest) else None

abbrev pub range_at : List ℕ → Option (ℕ × List ℕ)
range_at text = number_at text >>= (λ found. after (codes ":0] ") found.1 >>= (λ rest. range_by found.0 rest))
