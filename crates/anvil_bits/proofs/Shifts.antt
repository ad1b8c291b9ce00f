-- Shifts by less than the width, as a machine's word computes them.
--
-- The definition tests the amount first; where it is below the width the test is true, and what is left is one product or
-- quotient by a power of two. To the left the word has wrapped already, which the low bits do not notice. To the right
-- nothing has to be cut, since a quotient is no larger than the number.
use Rattle.std.proofs.Common.{◌≡◌, ◌≤◌, ◌<◌, ◌*◌, ◌/◌, ◌%◌, ◌^◌, ℕ, arith}
use Rattle.std.proofs.Math.Nat.{mod-eq_of_lt}
use Rattle.std.proofs.lemmas.Nat.{shr_le}
use Rattle.std.proofs.lemmas.Bool.{lt-ltb}
use Rattle.anvil_bits.proofs.Word.{low_of_wrapped}
use Rattle.anvil_bits.specs.Operators.{shift_left_of, shift_right_of}

pub left_in_word : (m w x amount : ℕ) → w ≤ m → amount < w → x * 2 ^ amount % 2 ^ m % 2 ^ w ≡ shift_left_of w x amount
left_in_word m w x amount within below = rw (lt-ltb amount w below) (low_of_wrapped m w (x * 2 ^ amount) within)

pub right_in_word : (w x amount : ℕ) → x < 2 ^ w → amount < w → x / 2 ^ amount % 2 ^ w ≡ shift_right_of w x amount
right_in_word w x amount fits below =
    let no_larger = shr_le x amount in
    let small : x / 2 ^ amount < 2 ^ w = omega arith in
    rw (lt-ltb amount w below) (mod-eq_of_lt small)
