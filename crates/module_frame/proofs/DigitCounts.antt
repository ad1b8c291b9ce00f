-- `digits` is the least count, of at least one, with which a number is below 2 to that count; and how the loop that doubles a
-- bound comes to it.
--
-- The definition goes up from a count until the number is below 2 to it. Its fuel is the number itself, which is enough, since
-- a number is below 2 to itself.
use Rattle.std.proofs.Common.{◌≡◌, ℕ, ◌+◌, ◌-◌, ◌*◌, ◌^◌, ◌<◌, ◌≤◌, arith, refl, sym, ◌∙◌, subst, ap, Bool, true, false, nat_lt, if◌then◌else◌, zero, suc}
use Rattle.std.proofs.Math.Nat.{pow-le-pow_right}
use Rattle.std.proofs.lemmas.Bool.{lt-ltb}
use Rattle.std.proofs.lemmas.Bool.Decides.{nat_tests}
use Rattle.machine_parts.specs.Digits.{digits, digits_from}

at_most_power : {low high : ℕ} → low ≤ high → 2 ^ low ≤ 2 ^ high
at_most_power within = pow-le-pow_right (omega arith) within

pub below_power : (number : ℕ) → number < 2 ^ number
below_power zero = omega arith
below_power (suc number) = let known = below_power number in omega (arith, known)

-- the exponents of powers that are in order
pub exponents : (low high : ℕ) → 2 ^ low < 2 ^ high → low < high
exponents low high less = by_test (nat_lt low high) refl
  where
    by_test : (test : Bool) → nat_lt low high ≡ test → low < high
    by_test true passes = grind (arith, nat_tests)
    by_test false fails =
        let other : high ≤ low = grind (arith, nat_tests) in
        let powers = at_most_power other in
        absurd (omega (arith, powers, less))

-- the count stops where the number is below, and else goes on
pub stops : (count more number : ℕ) → number < 2 ^ count → digits_from count more number ≡ count
stops count zero number below = refl
stops count (suc more) number below = let test : nat_lt number (2 ^ count) ≡ true = lt-ltb number (2 ^ count) below in rw test refl

goes_on : (count more number : ℕ) → 2 ^ count ≤ number → digits_from count (suc more) number ≡ digits_from (count + 1) more number
goes_on count more number above = let test : nat_lt number (2 ^ count) ≡ false = grind (arith, nat_tests) in rw test refl

-- with as much left as the loop has
pub one_more : (count number : ℕ) → 2 ^ count ≤ number
    → digits_from count (number + 1 - count) number ≡ digits_from (count + 1) (number + 1 - (count + 1)) number
one_more count number above =
    let below = below_power count in
    let left : number + 1 - count ≡ suc (number - count) = omega (arith, below, above) in
    let fewer : number + 1 - (count + 1) ≡ number - count = omega (arith, below, above) in
    ap (λ more. digits_from count more number) left ∙ goes_on count (number - count) number above
    ∙ ap (λ more. digits_from (count + 1) more number) (sym fewer)

pub at_start : (number : ℕ) → digits_from 1 (number + 1 - 1) number ≡ digits number
at_start number = let left : number + 1 - 1 ≡ number = omega arith in ap (λ more. digits_from 1 more number) left

-- a number below 2 to the power of 32 that the bound has not passed leaves room for one digit more
pub still_few : (count number : ℕ) → 2 ^ count ≤ number → number < 2 ^ 32 → count + 1 ≤ 32
still_few count number above few =
    let less : 2 ^ count < 2 ^ 32 = omega (arith, above, few) in
    let order = exponents count 32 less in
    omega (arith, order)

pub doubled : (count bound : ℕ) → bound ≡ 2 ^ count → bound * 2 ≡ 2 ^ (count + 1)
doubled count bound is = let next : count + 1 ≡ suc count = omega arith in rw next (omega (arith, is))

-- Laws of `digits`.

either : (P : ℕ → Type 0) (test : Bool) (here there : ℕ) → (test ≡ true → P here) → (test ≡ false → P there) → P (if test then here else there)
either P true here there passes fails = passes refl
either P false here there passes fails = fails refl

from_at_least : (count more number : ℕ) → count ≤ digits_from count more number
from_at_least count zero number = omega arith
from_at_least count (suc more) number =
    either (λ n. count ≤ n) (nat_lt number (2 ^ count)) count (digits_from (count + 1) more number)
    (λ passes. omega arith)
    (λ fails. let known = from_at_least (count + 1) more number in omega (arith, known))

from_enough : (count more number : ℕ) → number < 2 ^ (count + more) → number < 2 ^ digits_from count more number
from_enough count zero number below = let same : count + 0 ≡ count = omega arith in subst (λ n. number < 2 ^ n) same below
from_enough count (suc more) number below =
    let same : count + suc more ≡ count + 1 + more = omega arith in
    let next : number < 2 ^ (count + 1 + more) = subst (λ n. number < 2 ^ n) same below in
    either (λ n. number < 2 ^ n) (nat_lt number (2 ^ count)) count (digits_from (count + 1) more number)
    (λ passes. grind (arith, nat_tests))
    (λ fails. from_enough (count + 1) more number next)

from_needed : (count more number : ℕ) → 2 ^ (count - 1) ≤ number → 2 ^ (digits_from count more number - 1) ≤ number
from_needed count zero number needed = needed
from_needed count (suc more) number needed =
    either (λ n. 2 ^ (n - 1) ≤ number) (nat_lt number (2 ^ count)) count (digits_from (count + 1) more number)
    (λ passes. needed)
    (λ fails.
    let above : 2 ^ count ≤ number = grind (arith, nat_tests) in
    let same : count ≡ count + 1 - 1 = omega arith in
    from_needed (count + 1) more number (subst (λ n. 2 ^ n ≤ number) same above))

from_below : (count more number most : ℕ) → count ≤ most → number < 2 ^ most → digits_from count more number ≤ most
from_below count zero number most within below = within
from_below count (suc more) number most within below =
    either (λ n. n ≤ most) (nat_lt number (2 ^ count)) count (digits_from (count + 1) more number)
    (λ passes. within)
    (λ fails.
    let above : 2 ^ count ≤ number = grind (arith, nat_tests) in
    let less : 2 ^ count < 2 ^ most = omega (arith, above, below) in
    let order = exponents count most less in
    from_below (count + 1) more number most (omega (arith, order)) below)

pub some_digits : (number : ℕ) → 1 ≤ digits number
some_digits number = from_at_least 1 number number

-- so many are enough, fewer are not, and so many below 2 to a power are at most its exponent
pub enough_digits : (number : ℕ) → number < 2 ^ digits number
enough_digits number =
    let known = below_power number in
    let more = at_most_power {low = number} {high = 1 + number} (omega arith) in
    from_enough 1 number number (omega (arith, known, more))

pub needed_digits : (number : ℕ) → 1 ≤ number → 2 ^ (digits number - 1) ≤ number
needed_digits number some = from_needed 1 number number some

pub few_digits : (number most : ℕ) → 1 ≤ most → number < 2 ^ most → digits number ≤ most
few_digits number most some below = from_below 1 number number most some below

pub one_digit : digits 1 ≡ 1
one_digit = refl
