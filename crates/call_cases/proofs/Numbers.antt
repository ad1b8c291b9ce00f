-- Operators at the widest width, computed and worked out by hand: 2 - (2^64 - 1) + 2^64; a bit at each end moved by 63 and by 64; one bit
-- above 63 others; a slice that is the whole.
use Rattle.std.proofs.Common.{◌≡◌, refl}
use Rattle.anvil_bits.specs.Operators.{concatenation_of, difference_of, shift_left_of, shift_right_of, slice_of}

difference_wraps_far_at_64 : difference_of 64 2 0xffff_ffff_ffff_ffff ≡ 3
difference_wraps_far_at_64 = refl

left_by_63 : shift_left_of 64 0x8000_0000_0000_0001 63 ≡ 0x8000_0000_0000_0000
left_by_63 = refl

left_by_64 : shift_left_of 64 0x8000_0000_0000_0001 64 ≡ 0
left_by_64 = refl

right_by_63 : shift_right_of 64 0x8000_0000_0000_0001 63 ≡ 1
right_by_63 = refl

right_by_64 : shift_right_of 64 0x8000_0000_0000_0001 64 ≡ 0
right_by_64 = refl

one_bit_above_63 : concatenation_of 63 1 1 ≡ 0x8000_0000_0000_0001
one_bit_above_63 = refl

slice_of_the_whole : slice_of 7 0 0xa5 ≡ 0xa5
slice_of_the_whole = refl
