-- What an operator of two operands gives, as a number.
use Rattle.std.specs.Prelude.{ℕ}
use Rattle.anvil_bits.specs.Operators.{sum_of, difference_of, product_of, and_of, or_of, xor_of, equal_of, differs_of}
use Rattle.anvil_bits.specs.Operators.{less_of, at_most_of, shift_left_of, shift_right_of, concatenation_of}
use Rattle.core_term.specs.declared.operators.BinOp.{BinOp}
use Rattle.core_term.specs.declared.operators.BinOp.TheVariants.{Add, Sub, Mul, And, Or, Xor, Eq, Ne, Lt, Le, Gt, Ge}
use Rattle.core_term.specs.declared.operators.BinOp.TheVariants.{Shl, Shr, Cat}

-- `w` is the width of the result, `low_width` that of the second operand
abbrev pub operate : BinOp → (w low_width x y : ℕ) → ℕ
operate Add w low_width x y = sum_of w x y
operate Sub w low_width x y = difference_of w x y
operate Mul w low_width x y = product_of w x y
operate And w low_width x y = and_of x y
operate Or w low_width x y = or_of x y
operate Xor w low_width x y = xor_of x y
operate Eq w low_width x y = equal_of x y
operate Ne w low_width x y = differs_of x y
operate Lt w low_width x y = less_of x y
operate Le w low_width x y = at_most_of x y
operate Gt w low_width x y = less_of y x
operate Ge w low_width x y = at_most_of y x
operate Shl w low_width x y = shift_left_of w x y
operate Shr w low_width x y = shift_right_of w x y
operate Cat w low_width x y = concatenation_of low_width x y
