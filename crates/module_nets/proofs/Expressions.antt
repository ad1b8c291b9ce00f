-- The nets of expressions.
use Rattle.std.proofs.Common.{◌≡◌, ℕ, ◌+◌, ◌-◌, ◌<◌, ◌≤◌, Bool, true, false, not, List, length, refl, subst, arith}
use Rattle.std.specs.Prelude.{IsTrue, ◌&&◌, ◌==◌, nat_lt, nat_le}
use Rattle.std.proofs.lemmas.Bool.Decides.{nat_tests}
use Rattle.std.proofs.lemmas.Bool.{and_parts, and_from, lt-ltb, le-leb, le-ltb, eq-eqb}
use Rattle.anvil_bits.specs.Operators.{shift_left_of, shift_right_of, choice_of}
use Rattle.anvil_bits.specs.Number.{Number}
use Rattle.core_term.specs.declared.operators.BinOp.{BinOp}
use Rattle.core_term.specs.declared.operators.BinOp.TheVariants.{Shl, Shr}
use Rattle.core_term.specs.Operators.{operate}
use Rattle.core_term.specs.Widths.{result_width}
use Rattle.sv_tree.specs.declared.tree.SvRef.{SvRef}
use Rattle.sv_tree.specs.declared.tree.SvOperand.{SvOperand}
use Rattle.sv_tree.specs.declared.tree.SvOperand.TheVariants.{Ref, Lit}
use Rattle.sv_tree.specs.Module.{Module}
use Rattle.sv_tree.specs.WellFormed.{ref_stands, ref_width, operand_stands, operand_width, slice_widths_fit}
use Rattle.module_nets.specs.declared.signal.Signal.{Signal}
use Rattle.module_nets.specs.declared.scope.Variable.{Variable}
use Rattle.module_nets.specs.declared.scope.Scope.{Scope}
use Rattle.module_nets.specs.Netlist.{Extends, Stands}
use Rattle.module_nets.specs.Shown.{Moment, shown, operand_shown}
use Rattle.module_nets.specs.Shifts.{is_below, stays}
use Rattle.module_nets.specs.Signals.{AllStand, PlacesStand, VariablesStand, signal_at, variable_in, no_signal}
use Rattle.module_nets.proofs.Growing.{stands_later, width_there, extends_self}

pub places_later : (old new : Module) (registers ports sides : List Signal) → Extends old new → PlacesStand old registers ports sides → PlacesStand new registers ports sides
places_later old new registers ports sides e all = record {
  registers_stand = λ r within. stands_later old new (signal_at registers r) e (all.registers_stand r within);
  ports_stand = λ m some. stands_later old new (signal_at ports m) e (all.ports_stand m some);
  sides_stand = λ p within.
      let is = all.sides_stand p within in record { stands = stands_later old new (signal_at sides p) e is.stands; one_bit = is.one_bit };
}

pub variables_later : (old new : Module) (names : List Variable) → Extends old new → VariablesStand old names → VariablesStand new names
variables_later old new names e all y some = stands_later old new (variable_in no_signal names y) e (all y some)

pub all_stand_later : (old new : Module) (scope : Scope) → Extends old new → AllStand old scope → AllStand new scope
all_stand_later old new scope e all = record {
  places = places_later old new scope.registers.now scope.ports.now scope.sides.now e all.places;
  variables = variables_later old new scope.variables.now e all.variables;
}

-- a slice of a name that stands fits
pub slice_fits : (old : Module) (x : Signal) (of : SvRef) (high low : ℕ) → Stands old x → x.operand ≡ Ref of → low ≤ high → high < x.width
    → (new : Module) → Extends old new → IsTrue (ref_stands new (length old.nets) of && slice_widths_fit high low (high - low + 1) (ref_width new of))
slice_fits old x of high low stood is ordered within new e =
    let wide : ref_width new of ≡ x.width = subst (λ o. operand_width new o ≡ x.width) is (width_there old new x e stood) in
    let stands : operand_stands new (length old.nets) (Ref of) ≡ true = subst (λ o. operand_stands new (length old.nets) o ≡ true) is
    (and_parts (operand_stands new (length old.nets) x.operand) (operand_width new x.operand == x.width) (stood.stands new e)).0 in
    let bound : high < ref_width new of = omega (arith, wide) in
    and_from (ref_stands new (length old.nets) of) (slice_widths_fit high low (high - low + 1) (ref_width new of)) stands
    (and_from (nat_le low high && nat_lt high (ref_width new of)) (high - low + 1 + low == high + 1)
    (and_from (nat_le low high) (nat_lt high (ref_width new of)) (le-leb low high ordered) (lt-ltb high (ref_width new of) bound))
    (eq-eqb (high - low + 1 + low) (high + 1) (omega arith)))

-- a literal that stands has the width of its signal
pub literal_within : (old : Module) (x : Signal) (number : Number) (high : ℕ) → Stands old x → x.operand ≡ Lit number → high < x.width → high < number.width
literal_within old x number high stood is within =
    let wide : number.width ≡ x.width = subst (λ o. operand_width old o ≡ x.width) is (width_there old old x (extends_self old) stood) in
    omega (arith, wide)

pub operate_same : (op : BinOp) (w v w' v' x y x' y' : ℕ) → w ≡ w' → v ≡ v' → x ≡ x' → y ≡ y'
    → operate op (result_width op w v) v x y ≡ operate op (result_width op w' v') v' x' y'
operate_same op w v w' v' x y x' y' e f g h = rw (e, f, g, h) refl

pub choice_same : (c x y c' x' y' : ℕ) → c ≡ c' → x ≡ x' → y ≡ y' → choice_of c x y ≡ choice_of c' x' y'
choice_same c x y c' x' y' e f g = rw (e, f, g) refl

-- shifts by the width or more
pub left_out : (w x amount : ℕ) → w ≤ amount → shift_left_of w x amount ≡ 0
left_out w x amount out = let no : nat_lt amount w ≡ false = le-ltb amount w out in rw no refl

pub right_out : (w x amount : ℕ) → w ≤ amount → shift_right_of w x amount ≡ 0
right_out w x amount out = let no : nat_lt amount w ≡ false = le-ltb amount w out in rw no refl

pub not_true : (test : Bool) → not test ≡ true → test ≡ false
not_true true is = absurd cc
not_true false is = refl

pub not_false : (test : Bool) → not test ≡ false → test ≡ true
not_false true is = refl
not_false false is = absurd cc

-- a shift that does not stay is by a literal of the width or more, and gives 0
past_lifts : (now : Moment) (amount : Signal) (width : ℕ) (X : Type 0) → is_below width amount.operand ≡ false → (width ≤ shown now amount → X) → X
past_lifts now amount width X past out = by_case amount.operand past out
  where
    by_case : (operand : SvOperand) → is_below width operand ≡ false → (width ≤ operand_shown now operand → X) → X
    by_case (Ref name) past out = absurd cc
    by_case (Lit number) past out = let more : width ≤ number.value = grind (arith, nat_tests) in out more

pub shifted_out : (now : Moment) (op : BinOp) (left right : Signal) → stays op left.width right.operand ≡ false
    → operate op (result_width op left.width right.width) right.width (shown now left) (shown now right) ≡ 0
shifted_out now Shl left right out = past_lifts now right left.width _ out (left_out left.width (shown now left) (shown now right))
shifted_out now Shr left right out = past_lifts now right left.width _ out (right_out left.width (shown now left) (shown now right))
shifted_out now op left right out = absurd cc

pub shift_width : (op : BinOp) (width other : ℕ) (amount : SvOperand) → stays op width amount ≡ false → result_width op width other ≡ width
shift_width Shl width other amount out = refl
shift_width Shr width other amount out = refl
shift_width op width other amount out = absurd cc

-- an operator that stays for the width of its left operand stays for that of its net: only a shift can fail to
pub stays_there : (op : BinOp) (width other : ℕ) (amount : SvOperand) → stays op width amount ≡ true → stays op (result_width op width other) amount ≡ true
stays_there Shl width other amount is = is
stays_there Shr width other amount is = is
stays_there op width other amount is = refl
