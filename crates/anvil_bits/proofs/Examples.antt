-- Computed examples of each operator's definition, so that a wrong definition does not check.
--
-- The values were worked out by hand, as binary arithmetic of the stated width has it; none is the program's own output.
use Rattle.std.proofs.Common.{◌≡◌, refl}
use Rattle.anvil_bits.specs.Number.{widest}
use Rattle.anvil_bits.specs.Operators.{sum_of, difference_of, product_of, and_of, or_of, xor_of, not_of, equal_of, differs_of, less_of, at_most_of, shift_left_of, shift_right_of, concatenation_of, slice_of, choice_of}
use Rattle.anvil_bits.specs.declared.TheConstants.{WIDEST}

-- the limit of the code is that of the definitions
pub limits_agree : WIDEST ≡ widest
limits_agree = refl

-- arithmetic: 300 - 256; 3 - 5 + 256; 256 - 256; and at the widest width
pub sum_wraps : sum_of 8 200 100 ≡ 44
sum_wraps = refl

pub sum_within : sum_of 8 200 55 ≡ 255
sum_within = refl

pub sum_of_one_bit : sum_of 1 1 1 ≡ 0
sum_of_one_bit = refl

pub sum_wraps_at_64 : sum_of 64 0xffff_ffff_ffff_ffff 2 ≡ 1
sum_wraps_at_64 = refl

pub difference_wraps : difference_of 8 3 5 ≡ 254
difference_wraps = refl

pub difference_within : difference_of 8 5 3 ≡ 2
difference_within = refl

pub difference_of_equals : difference_of 8 5 5 ≡ 0
difference_of_equals = refl

pub difference_wraps_at_64 : difference_of 64 0 1 ≡ 0xffff_ffff_ffff_ffff
difference_wraps_at_64 = refl

pub product_wraps : product_of 8 16 16 ≡ 0
product_wraps = refl

pub product_keeps_low_bits : product_of 8 17 31 ≡ 15
product_keeps_low_bits = refl

pub product_wraps_at_64 : product_of 64 0xffff_ffff_ffff_ffff 0xffff_ffff_ffff_ffff ≡ 1
product_wraps_at_64 = refl

-- bit by bit: 1100 and 1010
pub and_of_bits : and_of 0xc 0xa ≡ 0x8
and_of_bits = refl

pub or_of_bits : or_of 0xc 0xa ≡ 0xe
or_of_bits = refl

pub xor_of_bits : xor_of 0xc 0xa ≡ 0x6
xor_of_bits = refl

pub not_of_byte : not_of 8 0x0f ≡ 0xf0
not_of_byte = refl

pub not_of_one_bit : not_of 1 1 ≡ 0
not_of_one_bit = refl

pub not_of_64 : not_of 64 0 ≡ 0xffff_ffff_ffff_ffff
not_of_64 = refl

-- comparisons: of equal numbers, of a lesser with a greater, and of a greater with a lesser
pub equal_at_equal : equal_of 7 7 ≡ 1
equal_at_equal = refl

pub equal_at_less : equal_of 6 7 ≡ 0
equal_at_less = refl

pub equal_at_greater : equal_of 7 6 ≡ 0
equal_at_greater = refl

pub differs_at_equal : differs_of 7 7 ≡ 0
differs_at_equal = refl

pub differs_at_less : differs_of 6 7 ≡ 1
differs_at_less = refl

pub differs_at_greater : differs_of 7 6 ≡ 1
differs_at_greater = refl

pub less_at_equal : less_of 7 7 ≡ 0
less_at_equal = refl

pub less_at_less : less_of 6 7 ≡ 1
less_at_less = refl

pub less_at_greater : less_of 7 6 ≡ 0
less_at_greater = refl

-- numbers are unsigned: the top bit is no sign
pub less_is_unsigned : less_of 0x01 0x80 ≡ 1
less_is_unsigned = refl

pub at_most_at_equal : at_most_of 7 7 ≡ 1
at_most_at_equal = refl

pub at_most_at_less : at_most_of 6 7 ≡ 1
at_most_at_less = refl

pub at_most_at_greater : at_most_of 7 6 ≡ 0
at_most_at_greater = refl

-- shifts of 1000_0001 by nothing, by the width less one, by the width and by the most that 64 bits hold
pub left_by_nothing : shift_left_of 8 0x81 0 ≡ 0x81
left_by_nothing = refl

pub left_by_one : shift_left_of 8 0x81 1 ≡ 0x02
left_by_one = refl

pub left_by_seven : shift_left_of 8 0x81 7 ≡ 0x80
left_by_seven = refl

pub left_by_width : shift_left_of 8 0x81 8 ≡ 0
left_by_width = refl

pub left_by_most : shift_left_of 8 0x81 0xffff_ffff_ffff_ffff ≡ 0
left_by_most = refl

pub right_by_nothing : shift_right_of 8 0x81 0 ≡ 0x81
right_by_nothing = refl

pub right_by_one : shift_right_of 8 0x81 1 ≡ 0x40
right_by_one = refl

pub right_by_seven : shift_right_of 8 0x81 7 ≡ 0x01
right_by_seven = refl

pub right_by_width : shift_right_of 8 0x81 8 ≡ 0
right_by_width = refl

pub right_by_most : shift_right_of 8 0x81 0xffff_ffff_ffff_ffff ≡ 0
right_by_most = refl

-- parts put together and taken apart
pub high_above_low : concatenation_of 4 0xa 0x5 ≡ 0xa5
high_above_low = refl

pub low_part_keeps_its_zeros : concatenation_of 4 0xa 0x0 ≡ 0xa0
low_part_keeps_its_zeros = refl

pub slice_of_high_half : slice_of 7 4 0xa5 ≡ 0xa
slice_of_high_half = refl

pub slice_of_low_half : slice_of 3 0 0xa5 ≡ 0x5
slice_of_low_half = refl

-- 1010_0101 without its two lowest bits and its two highest ones
pub slice_of_middle : slice_of 5 2 0xa5 ≡ 0x9
slice_of_middle = refl

pub slice_of_one_bit : slice_of 7 7 0xa5 ≡ 1
slice_of_one_bit = refl

pub choice_at_one : choice_of 1 0xa 0x5 ≡ 0xa
choice_at_one = refl

pub choice_at_zero : choice_of 0 0xa 0x5 ≡ 0x5
choice_at_zero = refl
