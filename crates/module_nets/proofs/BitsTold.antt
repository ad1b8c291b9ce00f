-- Numbers of one bit as tests: a signal of one bit shows 0 or 1, since operands that stand show numbers below 2 to their
-- widths, so `&`, `|`, `^` and `~` are the operators of truth values.
use Rattle.std.proofs.Common.{◌≡◌, ℕ, zero, suc, ◌^◌, ◌<◌, Bool, true, false, not, length, refl, subst, arith}
use Rattle.std.specs.Prelude.{◌&&◌, ◌||◌, ◌==◌, bit_and, bit_or, bit_xor}
use Rattle.std.proofs.lemmas.Bool.{and_parts}
use Rattle.anvil_bits.specs.Operators.{truth, not_of}
use Rattle.core_term.specs.declared.operators.BinOp.TheVariants.{And, Or, Xor}
use Rattle.core_term.specs.Operators.{operate}
use Rattle.sv_tree.specs.Module.{Module}
use Rattle.sv_tree.specs.WellFormed.{operand_stands, operand_width}
use Rattle.sv_tree.specs.Clocked.{registers_at, settled_value}
use Rattle.sv_tree.proofs.NumbersFit.{all_within}
use Rattle.module_nets.specs.declared.signal.Signal.{Signal}
use Rattle.module_nets.specs.Netlist.{Extends, Stands}
use Rattle.module_nets.specs.Shown.{Moment, IsMomentOf, shown}
use Rattle.module_nets.specs.Bits.{IsBit, told, xor}
use Rattle.module_nets.proofs.Growing.{of_later, stands_later, operand_later, longer, width_there}

-- what stands in a netlist shows a number of its width
pub shown_within : (old : Module) (now : Moment) (signal : Signal) → Stands old signal → IsMomentOf old now → shown now signal < 2 ^ signal.width
shown_within old now signal stood of =
    let parts = and_parts (operand_stands now.tree (length old.nets) signal.operand) (operand_width now.tree signal.operand == signal.width) (stood.stands now.tree of.extends) in
    let at_end = operand_later now.tree (length old.nets) (length now.tree.nets) signal.operand (longer old now.tree of.extends) parts.0 in
    let below : shown now signal < 2 ^ operand_width now.tree signal.operand = all_within now.tree of.well_formed now.inputs of.fit now.cycle of.within signal.operand at_end in
    subst (λ width. shown now signal < 2 ^ width) (width_there old now.tree signal of.extends stood) below

pub bit_later : (old new : Module) (x : Signal) → Extends old new → IsBit old x → IsBit new x
bit_later old new x e is = record { stands = stands_later old new x e is.stands; one_bit = is.one_bit }

and_told : (x y : ℕ) → x < 2 → y < 2 → (bit_and x y == 1) ≡ ((x == 1) && (y == 1))
and_told zero zero one other = refl
and_told zero (suc zero) one other = refl
and_told (suc zero) zero one other = refl
and_told (suc zero) (suc zero) one other = refl
and_told (suc (suc x)) y one other = absurd (omega (arith, one))
and_told x (suc (suc y)) one other = absurd (omega (arith, other))

or_told : (x y : ℕ) → x < 2 → y < 2 → (bit_or x y == 1) ≡ ((x == 1) || (y == 1))
or_told zero zero one other = refl
or_told zero (suc zero) one other = refl
or_told (suc zero) zero one other = refl
or_told (suc zero) (suc zero) one other = refl
or_told (suc (suc x)) y one other = absurd (omega (arith, one))
or_told x (suc (suc y)) one other = absurd (omega (arith, other))

xor_told : (x y : ℕ) → x < 2 → y < 2 → (bit_xor x y == 1) ≡ xor (x == 1) (y == 1)
xor_told zero zero one other = refl
xor_told zero (suc zero) one other = refl
xor_told (suc zero) zero one other = refl
xor_told (suc zero) (suc zero) one other = refl
xor_told (suc (suc x)) y one other = absurd (omega (arith, one))
xor_told x (suc (suc y)) one other = absurd (omega (arith, other))

not_told : (x : ℕ) → x < 2 → (not_of 1 x == 1) ≡ not (x == 1)
not_told zero one = refl
not_told (suc zero) one = refl
not_told (suc (suc x)) one = absurd (omega (arith, one))

pub truth_told : (b : Bool) → (truth b == 1) ≡ b
truth_told true = refl
truth_told false = refl

below_two : (old new : Module) (now : Moment) (x : Signal) → Extends old new → IsBit old x → IsMomentOf new now → shown now x < 2
below_two old new now x e is of =
    let below = shown_within old now x is.stands (of_later old new now e of) in
    let two : shown now x < 2 ^ 1 = subst (λ w. shown now x < 2 ^ w) is.one_bit below in
    omega (arith, two)

module _ (old new : Module) (now : Moment) (x y : Signal) (e : Extends old new) (left : IsBit old x) (right : IsBit old y) (of : IsMomentOf new now) where
  pub and_is_told : (operate And 1 y.width (shown now x) (shown now y) == 1) ≡ (told now x && told now y)
  and_is_told = and_told (shown now x) (shown now y) (below_two old new now x e left of) (below_two old new now y e right of)

  pub or_is_told : (operate Or 1 y.width (shown now x) (shown now y) == 1) ≡ (told now x || told now y)
  or_is_told = or_told (shown now x) (shown now y) (below_two old new now x e left of) (below_two old new now y e right of)

  pub xor_is_told : (operate Xor 1 y.width (shown now x) (shown now y) == 1) ≡ xor (told now x) (told now y)
  xor_is_told = xor_told (shown now x) (shown now y) (below_two old new now x e left of) (below_two old new now y e right of)

pub inverse_is_told : (old new : Module) (now : Moment) (x : Signal) → Extends old new → IsBit old x → IsMomentOf new now → (not_of x.width (shown now x) == 1) ≡ not (told now x)
inverse_is_told old new now x e is of = rw is.one_bit (not_told (shown now x) (below_two old new now x e is of))
