-- What each operator gives, as a number: the one meaning that expressions of the source and nets of a module share.
--
-- An argument `w` is the width of the result (a comparison has none, since it gives 0 or 1). Numbers are below 2 ^ w where
-- the operands have that width. These are the facts of IEEE 1800-2017 on unsigned operands: 11.4.3 (arithmetic), 11.4.4 and
-- 11.4.5 (comparisons), 11.4.8 (bit by bit), 11.4.10 (shifts), 11.4.11 (the conditional operator), 11.4.12
-- (concatenation) and 11.5.1 (the bits from one place to another).
use Rattle.std.specs.Prelude.{ℕ, ◌+◌, ◌-◌, ◌*◌, ◌/◌, ◌%◌, ◌^◌, ◌==◌, if◌then◌else◌, Bool, true, false, not, nat_lt, nat_le, bit_and, bit_or, bit_xor}

-- a test as a number of one bit
abbrev pub truth : Bool → ℕ
truth b = if b then 1 else 0

-- arithmetic, modulo 2 ^ w
abbrev pub sum_of : (w x y : ℕ) → ℕ
sum_of w x y = (x + y) % 2 ^ w

-- 2 ^ w stands in for what is borrowed where y is above x
abbrev pub difference_of : (w x y : ℕ) → ℕ
difference_of w x y = (x + (2 ^ w - y)) % 2 ^ w

abbrev pub product_of : (w x y : ℕ) → ℕ
product_of w x y = (x * y) % 2 ^ w

-- bit by bit
abbrev pub and_of : (x y : ℕ) → ℕ
and_of x y = bit_and x y

abbrev pub or_of : (x y : ℕ) → ℕ
or_of x y = bit_or x y

abbrev pub xor_of : (x y : ℕ) → ℕ
xor_of x y = bit_xor x y

-- what is left of w ones when those of x are taken away
abbrev pub not_of : (w x : ℕ) → ℕ
not_of w x = 2 ^ w - 1 - x

-- comparisons; `>` and `>=` are the last two with their operands changed round
abbrev pub equal_of : (x y : ℕ) → ℕ
equal_of x y = truth (x == y)

abbrev pub differs_of : (x y : ℕ) → ℕ
differs_of x y = truth (not (x == y))

abbrev pub less_of : (x y : ℕ) → ℕ
less_of x y = truth (nat_lt x y)

abbrev pub at_most_of : (x y : ℕ) → ℕ
at_most_of x y = truth (nat_le x y)

-- Shifts by an amount of any width: 0 from the width on. The test comes first, so that no huge power is ever computed.
abbrev pub shifted_left : Bool → (w x amount : ℕ) → ℕ
shifted_left true w x amount = (x * 2 ^ amount) % 2 ^ w
shifted_left false w x amount = 0

abbrev pub shift_left_of : (w x amount : ℕ) → ℕ
shift_left_of w x amount = shifted_left (nat_lt amount w) w x amount

abbrev pub shifted_right : Bool → (x amount : ℕ) → ℕ
shifted_right true x amount = x / 2 ^ amount
shifted_right false x amount = 0

abbrev pub shift_right_of : (w x amount : ℕ) → ℕ
shift_right_of w x amount = shifted_right (nat_lt amount w) x amount

-- the first operand above the second, which has `low_width` bits
abbrev pub concatenation_of : (low_width x y : ℕ) → ℕ
concatenation_of low_width x y = x * 2 ^ low_width + y

-- the bits from `high` down to `low`
abbrev pub slice_of : (high low x : ℕ) → ℕ
slice_of high low x = (x / 2 ^ low) % 2 ^ (high + 1 - low)

-- the first where the condition, of one bit, is 1
abbrev pub choice_of : (condition x y : ℕ) → ℕ
choice_of condition x y = if condition == 1 then x else y
