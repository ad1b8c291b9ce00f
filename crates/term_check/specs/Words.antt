-- The width of the value of an `if`, by the widths of its sides: it has a value where both sides have one.
use Rattle.std.specs.Prelude.{ℕ, nat_lt, ◌&&◌, if◌then◌else◌, Option, Some, None}

abbrev pub word_of : ℕ → ℕ → Option ℕ
word_of left right = if nat_lt 0 left && nat_lt 0 right then Some left else None
