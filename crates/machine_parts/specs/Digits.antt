-- How many binary digits a number has: the least count, of at least one, with which it is below 2 to that count.
use Rattle.std.specs.Prelude.{ℕ, ◌+◌, ◌^◌, nat_lt, if◌then◌else◌, zero, suc}

-- from a count on, with at most so many more
abbrev pub digits_from : (count more number : ℕ) → ℕ
digits_from count zero number = count
digits_from count (suc fewer) number = if nat_lt number (2 ^ count) then count else digits_from (count + 1) fewer number

abbrev pub digits : ℕ → ℕ
digits number = digits_from 1 number number
