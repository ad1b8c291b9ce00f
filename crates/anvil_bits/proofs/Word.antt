-- From a machine's word to a number of fewer bits.
--
-- A word of m bits computes modulo 2 ^ m, and an operator of a width w, at most m, modulo 2 ^ w. Since 2 ^ m is a multiple
-- of 2 ^ w, to compute in a word and keep its low w bits gives the same as to compute modulo 2 ^ w at once. The hard cases
-- are the difference and the flipped bits: there the word starts from 2 ^ m in place of 2 ^ w, and the excess,
-- 2 ^ m - 2 ^ w, is a multiple of 2 ^ w, which the low w bits forget.
use Rattle.std.proofs.Common.{◌≡◌, ◌≤◌, ◌<◌, ◌+◌, ◌-◌, ◌*◌, ◌/◌, ◌%◌, ◌^◌, ℕ, bit_and, bit_or, ap, ◌∙◌, arith}
use Rattle.std.proofs.Math.Nat.{add-mul-mod_self_right, mod-eq_of_lt}
use Rattle.std.proofs.Math.Pow.{mod-mod-pow}
use Rattle.std.proofs.lemmas.Nat.{pow_pos, pow-add, and_mask, or_shifted, shl_whole, mul-add-lt}
use Rattle.std.proofs.lemmas.Nat.Bits.{ones_shr}

-- the low w bits of a result that has wrapped at m bits are those of the whole result
pub low_of_wrapped : (m w n : ℕ) → w ≤ m → n % 2 ^ m % 2 ^ w ≡ n % 2 ^ w
low_of_wrapped m w n within =
    let whole : m - w + w ≡ m = omega arith in
    rw whole at (mod-mod-pow n (m - w) w)

-- a word under a mask of w ones, as code makes it, is its low w bits
pub masked : (m w word : ℕ) → w ≤ m → bit_and word ((2 ^ m - 1) / 2 ^ (m - w)) ≡ word % 2 ^ w
masked m w word within =
    let fewer : m - w ≤ m = omega arith in
    let left : m - (m - w) ≡ w = omega arith in
    rw (ones_shr m (m - w) fewer, left) (and_mask word w)

-- 2 ^ m is 2 ^ w and a multiple of it
pub word_as_multiple : (m w : ℕ) → w ≤ m → 2 ^ m ≡ 2 ^ w + (2 ^ (m - w) - 1) * 2 ^ w
word_as_multiple m w within =
    let whole : m - w + w ≡ m = omega arith in
    let product : 2 ^ m ≡ 2 ^ (m - w) * 2 ^ w = rw whole at (pow-add 2 (m - w) w) in
    let some : 0 < 2 ^ (m - w) = pow_pos (m - w) in
    let split : 2 ^ (m - w) ≡ 1 + (2 ^ (m - w) - 1) = omega arith in
    let spread : (1 + (2 ^ (m - w) - 1)) * 2 ^ w ≡ 2 ^ w + (2 ^ (m - w) - 1) * 2 ^ w = omega arith in
    product ∙ ap (λ (n : ℕ). n * 2 ^ w) split ∙ spread

-- a difference in a word, cut to w bits
pub low_of_difference : (m w x y : ℕ) → w ≤ m → y < 2 ^ w → (x + (2 ^ m - y)) % 2 ^ m % 2 ^ w ≡ (x + (2 ^ w - y)) % 2 ^ w
low_of_difference m w x y within below =
    let multiple = word_as_multiple m w within in
    let excess : x + (2 ^ m - y) ≡ x + (2 ^ w - y) + (2 ^ (m - w) - 1) * 2 ^ w = omega arith in
    low_of_wrapped m w (x + (2 ^ m - y)) within ∙ ap (λ (n : ℕ). n % 2 ^ w) excess
    ∙ add-mul-mod_self_right (x + (2 ^ w - y)) (2 ^ (m - w) - 1) (2 ^ w)

-- a word's bits flipped, cut to w bits
pub low_of_flipped : (m w x : ℕ) → w ≤ m → x < 2 ^ w → (2 ^ m - 1 - x) % 2 ^ w ≡ 2 ^ w - 1 - x
low_of_flipped m w x within below =
    let multiple = word_as_multiple m w within in
    let excess : 2 ^ m - 1 - x ≡ 2 ^ w - 1 - x + (2 ^ (m - w) - 1) * 2 ^ w = omega arith in
    let small : 2 ^ w - 1 - x < 2 ^ w = omega arith in
    ap (λ (n : ℕ). n % 2 ^ w) excess ∙ add-mul-mod_self_right (2 ^ w - 1 - x) (2 ^ (m - w) - 1) (2 ^ w) ∙ mod-eq_of_lt small

-- a number moved up past a low one, in a word that holds both: nothing is lost, and the two share no bit
pub joined : (m high_width low_width x y : ℕ) → high_width + low_width ≤ m → x < 2 ^ high_width → y < 2 ^ low_width
    → bit_or (x * 2 ^ low_width % 2 ^ m) y ≡ x * 2 ^ low_width + y
joined m high_width low_width x y within high low =
    rw (shl_whole x high_width low_width m high within) (or_shifted x low_width y low)

-- and the two together have as many bits as the widths say
pub joined_fits : (high_width low_width x y : ℕ) → x < 2 ^ high_width → y < 2 ^ low_width
    → x * 2 ^ low_width + y < 2 ^ (high_width + low_width)
joined_fits high_width low_width x y high low =
    let rows = mul-add-lt x (2 ^ low_width) y (2 ^ high_width) high low in
    let product = pow-add 2 high_width low_width in
    omega arith
