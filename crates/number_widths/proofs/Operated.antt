-- Each operator gives a number below 2 to the width of its result.
use Rattle.std.proofs.Common.{◌≡◌, ℕ, ◌+◌, ◌-◌, ◌*◌, ◌%◌, ◌^◌, ◌<◌, Bool, true, false, ◌==◌, nat_lt, if◌then◌else◌, subst, arith}
use Rattle.std.proofs.lemmas.Bool.{eqb-true}
use Rattle.std.proofs.lemmas.Nat.{or_lt, xor_lt, and_le_l, pow_pos}
use Rattle.std.proofs.Math.Nat.{mod-lt, div-le_self}
use Rattle.anvil_bits.proofs.Word.{joined_fits}
use Rattle.anvil_bits.specs.Operators.{truth, choice_of, shifted_left, shifted_right}
use Rattle.core_term.specs.Operators.{operate}
use Rattle.core_term.specs.declared.operators.BinOp.{BinOp}
use Rattle.core_term.specs.declared.operators.BinOp.TheVariants.{Add, Sub, Mul, And, Or, Xor, Eq, Ne, Lt, Le, Gt, Ge, Shl, Shr, Cat}
use Rattle.core_term.specs.Widths.{result_width}
use Rattle.core_term.specs.Sized.{operands_fit}

truth_within : (b : Bool) → truth b < 2 ^ 1
truth_within true = omega arith
truth_within false = omega arith

pub mod_within : (w x : ℕ) → x % 2 ^ w < 2 ^ w
mod_within w x = mod-lt x (pow_pos w)

left_within : (b : Bool) (w x amount : ℕ) → shifted_left b w x amount < 2 ^ w
left_within true w x amount = mod_within w (x * 2 ^ amount)
left_within false w x amount = pow_pos w

right_within : (b : Bool) (w x amount : ℕ) → x < 2 ^ w → shifted_right b x amount < 2 ^ w
right_within true w x amount below = let less = div-le_self x (2 ^ amount) in omega (arith, less, below)
right_within false w x amount below = pow_pos w

pub choice_within : (w c x y : ℕ) → x < 2 ^ w → y < 2 ^ w → choice_of c x y < 2 ^ w
choice_within w c x y one other = at (c == 1)
  where
    at : (b : Bool) → (if b then x else y) < 2 ^ w
    at true = one
    at false = other

pub moved : (x w v : ℕ) → (w == v) ≡ true → x < 2 ^ w → x < 2 ^ v
moved x w v same below = subst (λ u. x < 2 ^ u) (eqb-true w v same) below

turned : (x w v : ℕ) → (w == v) ≡ true → x < 2 ^ v → x < 2 ^ w
turned x w v same below = let e = eqb-true w v same in rw e below

pub operate_within : (op : BinOp) (w v x y : ℕ) → operands_fit op w v ≡ true → x < 2 ^ w → y < 2 ^ v → operate op (result_width op w v) v x y < 2 ^ result_width op w v
operate_within Add w v x y fits one other = mod_within w (x + y)
operate_within Sub w v x y fits one other = mod_within w (x + (2 ^ w - y))
operate_within Mul w v x y fits one other = mod_within w (x * y)
operate_within And w v x y fits one other = let less = and_le_l x y in omega (arith, one, less)
operate_within Or w v x y fits one other = or_lt w x y one (turned y w v fits other)
operate_within Xor w v x y fits one other = xor_lt w x y one (turned y w v fits other)
operate_within Eq w v x y fits one other = truth_within _
operate_within Ne w v x y fits one other = truth_within _
operate_within Lt w v x y fits one other = truth_within _
operate_within Le w v x y fits one other = truth_within _
operate_within Gt w v x y fits one other = truth_within _
operate_within Ge w v x y fits one other = truth_within _
operate_within Shl w v x y fits one other = left_within (nat_lt y w) w x y
operate_within Shr w v x y fits one other = right_within (nat_lt y w) w x y one
operate_within Cat w v x y fits one other = joined_fits w v x y one other
