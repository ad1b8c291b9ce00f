-- The checks that several parts of a process share.
use Rattle.std.specs.Prelude.{ℕ, ◌^◌, ◌==◌, nat_lt, nat_le, Bool, ◌&&◌, List, [], ◌∷◌}
use Rattle.core_term.specs.Limits.{longest_delay}
-- a width is 1 to the widest
pub use Rattle.core_term.specs.Sized.{is_width}
use Rattle.first_check.specs.Check.{Check, must}
use Rattle.core_file.specs.declared.error.NameErr.{NameErr}
use Rattle.core_file.specs.declared.error.NameErr.TheVariants.{BadWidth, LiteralTooLarge, WidthDiffers}

abbrev pub Checks : Type 0
Checks = List (Check NameErr)

-- the number of a `cycle` is 1 to the longest
abbrev pub is_count : ℕ → Bool
is_count count = nat_le 1 count && nat_le count longest_delay

-- the two widths at the place have to be one
abbrev pub are_equal : ℕ → ℕ → ℕ → Check NameErr
are_equal at left right = must (left == right) (WidthDiffers at left right)

-- a literal has a width, and its value is below 2 to it
abbrev pub literal_checks : ℕ → ℕ → ℕ → Checks
literal_checks at width value =
    must (is_width width) (BadWidth at) ∷ must (nat_lt value (2 ^ width)) (LiteralTooLarge at) ∷ []
