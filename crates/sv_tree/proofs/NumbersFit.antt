-- In each cycle of a well-formed module over inputs that fit, every operand that stands shows a number of its width.
--
-- Each operator gives a number of the width of its net, where its operands have numbers of their widths; so the nets keep it,
-- one after the other. The registers begin with resets of their widths and take next values of their widths.
use Rattle.std.proofs.Common.{◌≡◌, ℕ, zero, suc, ◌+◌, ◌-◌, ◌*◌, ◌/◌, ◌%◌, ◌^◌, ◌<◌, ◌≤◌, ◌⊎◌, inl, inr, Bool, true, false, List, [], ◌∷◌, ◌++◌, length, map, refl, sym, ◌∙◌, ap, subst, arith, append_assoc}
use Rattle.std.specs.Prelude.{IsTrue, ◌&&◌, ◌==◌, nat_lt, nat_le, slice_index, if◌then◌else◌}
use Rattle.std.specs.List.{list_all}
use Rattle.std.proofs.lemmas.Bool.Decides.{nat_tests}
use Rattle.std.proofs.lemmas.Bool.{and_parts, and_from, ltb-true, eqb-true, false≢true, cases_lt}
use Rattle.std.proofs.lemmas.List.{length-append, length-map, get_or_append_left, get_or_at, map-append}
use Rattle.std.proofs.lemmas.Nat.{or_lt, xor_lt, and_le_l, pow_pos}
use Rattle.std.proofs.Math.Nat.{mod-lt, div-le_self}
use Rattle.std.proofs.Math.Seq.{get_or-append_seam}
use Rattle.anvil_bits.proofs.Word.{joined_fits}
use Rattle.anvil_bits.specs.Operators.{truth, slice_of, choice_of, shifted_left, shifted_right}
use Rattle.core_term.specs.Inputs.{Inputs}
use Rattle.core_term.specs.Operators.{operate}
use Rattle.core_term.specs.declared.operators.BinOp.{BinOp}
use Rattle.core_term.specs.declared.operators.BinOp.TheVariants.{Add, Sub, Mul, And, Or, Xor, Eq, Ne, Lt, Le, Gt, Ge, Shl, Shr, Cat}
use Rattle.sv_tree.specs.declared.tree.SvReg.{SvReg}
use Rattle.sv_tree.specs.declared.tree.SvRef.{SvRef}
use Rattle.sv_tree.specs.declared.tree.SvRef.TheVariants.{Data, Valid, Ack, Reg, Net}
use Rattle.sv_tree.specs.declared.tree.SvOperand.{SvOperand}
use Rattle.sv_tree.specs.declared.tree.SvOperand.TheVariants.{Ref, Lit}
use Rattle.sv_tree.specs.declared.tree.SvOp.{SvOp}
use Rattle.sv_tree.specs.declared.tree.SvOp.TheVariants.{Not, Bin, Slice, Choose}
use Rattle.sv_tree.specs.declared.tree.SvNet.{SvNet}
use Rattle.sv_tree.specs.Module.{Module}
use Rattle.sv_tree.specs.WellFormed.{IsWellFormed, is_number, is_width, ref_stands, ref_width, operand_stands, operand_width, is_operand_of, op_fits, nets_fit, bin_widths_fit, slice_widths_fit, reset_fits, nexts_fit, gives}
use Rattle.sv_tree.specs.Clocked.{ref_value, operand_value, operation_value, net_values_after, net_values, registers_at, settled_value}
use Rattle.sv_tree.specs.Fitting.{AreWithin, InputsFit}
use Rattle.sv_tree.proofs.WellFormedPoints.{points_of}

truth_within : (b : Bool) → truth b < 2 ^ 1
truth_within true = omega arith
truth_within false = omega arith

mod_within : (w x : ℕ) → x % 2 ^ w < 2 ^ w
mod_within w x = mod-lt x (pow_pos w)

left_within : (b : Bool) (w x amount : ℕ) → shifted_left b w x amount < 2 ^ w
left_within true w x amount = mod_within w (x * 2 ^ amount)
left_within false w x amount = pow_pos w

right_within : (b : Bool) (w x amount : ℕ) → x < 2 ^ w → shifted_right b x amount < 2 ^ w
right_within true w x amount below = let less = div-le_self x (2 ^ amount) in omega (arith, less, below)
right_within false w x amount below = pow_pos w

choice_within : (w c x y : ℕ) → x < 2 ^ w → y < 2 ^ w → choice_of c x y < 2 ^ w
choice_within w c x y one other = at (c == 1)
  where
    at : (b : Bool) → (if b then x else y) < 2 ^ w
    at true = one
    at false = other

moved : (x w v : ℕ) → (w == v) ≡ true → x < 2 ^ w → x < 2 ^ v
moved x w v same below = subst (λ u. x < 2 ^ u) (eqb-true w v same) below

compared : (width w v : ℕ) (b : Bool) → ((w == v) && (width == 1)) ≡ true → truth b < 2 ^ width
compared width w v b fits = let one : width ≡ 1 = eqb-true width 1 (and_parts (w == v) (width == 1) fits).1 in rw one (truth_within b)

operate_within : (op : BinOp) (width w v x y : ℕ) → bin_widths_fit op width w v ≡ true → x < 2 ^ w → y < 2 ^ v → operate op width v x y < 2 ^ width
operate_within Add width w v x y fits one other = mod_within width (x + y)
operate_within Sub width w v x y fits one other = mod_within width (x + (2 ^ width - y))
operate_within Mul width w v x y fits one other = mod_within width (x * y)
operate_within And width w v x y fits one other =
    let left = moved x w width (and_parts (w == width) (v == width) fits).0 one in let less = and_le_l x y in omega (arith, left, less)
operate_within Or width w v x y fits one other =
    or_lt width x y (moved x w width (and_parts (w == width) (v == width) fits).0 one) (moved y v width (and_parts (w == width) (v == width) fits).1 other)
operate_within Xor width w v x y fits one other =
    xor_lt width x y (moved x w width (and_parts (w == width) (v == width) fits).0 one) (moved y v width (and_parts (w == width) (v == width) fits).1 other)
operate_within Eq width w v x y fits one other = compared width w v _ fits
operate_within Ne width w v x y fits one other = compared width w v _ fits
operate_within Lt width w v x y fits one other = compared width w v _ fits
operate_within Le width w v x y fits one other = compared width w v _ fits
operate_within Gt width w v x y fits one other = compared width w v _ fits
operate_within Ge width w v x y fits one other = compared width w v _ fits
operate_within Shl width w v x y fits one other = left_within (nat_lt y width) width x y
operate_within Shr width w v x y fits one other = right_within (nat_lt y width) width x y (moved x w width fits one)
operate_within Cat width w v x y fits one other = subst (λ u. x * 2 ^ v + y < 2 ^ u) (eqb-true (w + v) width fits) (joined_fits w v x y one other)

module _ (tree : Module) (inputs : Inputs) (fit : InputsFit tree inputs) (cycle : ℕ) (short : cycle < inputs.count) (registers : List ℕ)
    (all : length registers ≡ length tree.regs) (registers_within : AreWithin (map (λ r. r.width) tree.regs) registers) where
  ref_within : (values : List ℕ) (x : SvRef) → AreWithin (map (λ n. n.width) tree.nets) values → ref_stands tree (length values) x ≡ true
      → ref_value inputs cycle registers values x < 2 ^ ref_width tree x
  ref_within values (Data port) within stands = fit port cycle short stands
  ref_within values (Valid port) within stands = truth_within (inputs.valid port cycle)
  ref_within values (Ack port) within stands = truth_within (inputs.ack port cycle)
  ref_within values (Reg register) within stands = let there = ltb-true register (length tree.regs) stands in registers_within register (omega (arith, there, all))
  ref_within values (Net net) within stands = within net (ltb-true net (length values) stands)

  operand_within : (values : List ℕ) (x : SvOperand) → AreWithin (map (λ n. n.width) tree.nets) values → operand_stands tree (length values) x ≡ true
      → operand_value inputs cycle registers values x < 2 ^ operand_width tree x
  operand_within values (Ref x) within stands = ref_within values x within stands
  operand_within values (Lit number) within stands = ltb-true number.value (2 ^ number.width) (and_parts (is_width number.width) (nat_lt number.value (2 ^ number.width)) stands).1

  pub of_width_within : (values : List ℕ) (width : ℕ) (x : SvOperand) → AreWithin (map (λ n. n.width) tree.nets) values → is_operand_of tree (length values) width x ≡ true
      → operand_value inputs cycle registers values x < 2 ^ width
  of_width_within values width x within stands =
      let both = and_parts (operand_stands tree (length values) x) (operand_width tree x == width) stands in
      moved _ (operand_width tree x) width both.1 (operand_within values x within both.0)

  operation_within : (values : List ℕ) (width : ℕ) (op : SvOp) → AreWithin (map (λ n. n.width) tree.nets) values → op_fits tree (length values) width op ≡ true
      → operation_value tree inputs cycle registers values width op < 2 ^ width
  operation_within values width (Not x) within fits = let some = pow_pos width in omega (arith, some)
  operation_within values width (Bin op x y) within fits =
      let two = and_parts (operand_stands tree (length values) x && operand_stands tree (length values) y) (bin_widths_fit op width (operand_width tree x) (operand_width tree y)) fits in
      let one = and_parts (operand_stands tree (length values) x) (operand_stands tree (length values) y) two.0 in
      operate_within op width (operand_width tree x) (operand_width tree y) _ _ two.1 (operand_within values x within one.0) (operand_within values y within one.1)
  operation_within values width (Slice x high low) within fits =
      let parts = and_parts (ref_stands tree (length values) x) (slice_widths_fit high low width (ref_width tree x)) fits in
      let sum = eqb-true (width + low) (high + 1) (and_parts (nat_le low high && nat_lt high (ref_width tree x)) (width + low == high + 1) parts.1).1 in
      let wide : high + 1 - low ≡ width = omega (arith, sum) in
      subst (λ w. slice_of high low (ref_value inputs cycle registers values x) < 2 ^ w) wide (mod_within (high + 1 - low) (ref_value inputs cycle registers values x / 2 ^ low))
  operation_within values width (Choose c x y) within fits =
      let two = and_parts (is_operand_of tree (length values) 1 c && is_operand_of tree (length values) width x) (is_operand_of tree (length values) width y) fits in
      let one = and_parts (is_operand_of tree (length values) 1 c) (is_operand_of tree (length values) width x) two.0 in
      choice_within width _ _ _ (of_width_within values width x within one.1) (of_width_within values width y within two.1)

  nets_within : (before rest : List SvNet) (values : List ℕ) → tree.nets ≡ before ++ rest → length values ≡ length before → nets_fit tree (length values) rest ≡ true
      → AreWithin (map (λ n. n.width) tree.nets) values → AreWithin (map (λ n. n.width) tree.nets) (net_values_after tree inputs cycle registers values rest)
  nets_within before [] values split count fits within = within
  nets_within before (net ∷ rest) values split count fits within =
      let value : ℕ = operation_value tree inputs cycle registers values net.width net.op in
      let parts = and_parts (op_fits tree (length values) net.width net.op) (nets_fit tree (length values + 1) rest) fits in
      let below : value < 2 ^ net.width = operation_within values net.width net.op within parts.0 in
      let long : length (values ++ value ∷ []) ≡ length values + 1 = length-append values (value ∷ []) in
      let longer : length (before ++ net ∷ []) ≡ length before + 1 = length-append before (net ∷ []) in
      let widths : map (λ n. n.width) tree.nets ≡ map (λ n. n.width) before ++ (net.width ∷ map (λ n. n.width) rest) =
      ap (λ nets. map (λ n. n.width) nets) split ∙ map-append (λ n. n.width) before (net ∷ rest) in
      let here : slice_index (map (λ n. n.width) tree.nets) (length values) ≡ net.width =
      ap (λ list. slice_index list (length values)) widths ∙ get_or_at (map (λ n. n.width) before) net.width (map (λ n. n.width) rest) 0 (length values) (length-map before (λ n. n.width) ∙ sym count) in
      nets_within (before ++ net ∷ []) rest (values ++ value ∷ [])
      (split ∙ sym (append_assoc before (net ∷ []) rest))
      (omega (arith, long, longer, count))
      (rw long parts.1)
      (λ k inside. more values value k net.width here within below (omega (arith, long, inside)))
    where
      more : (values : List ℕ) (value k width : ℕ) → slice_index (map (λ n. n.width) tree.nets) (length values) ≡ width → AreWithin (map (λ n. n.width) tree.nets) values
          → value < 2 ^ width → k < length values + 1 → slice_index (values ++ value ∷ []) k < 2 ^ slice_index (map (λ n. n.width) tree.nets) k
      more values value k width here within below inside = at (cases_lt k (length values))
        where
          at : (k < length values) ⊎ (length values ≤ k) → slice_index (values ++ value ∷ []) k < 2 ^ slice_index (map (λ n. n.width) tree.nets) k
          at (inl before) = let same = get_or_append_left values (value ∷ []) 0 k before in rw same (within k before)
          at (inr past) =
              let is : k ≡ length values = omega (arith, past, inside) in
              let same : slice_index (values ++ value ∷ []) (length values) ≡ value = get_or-append_seam values value [] 0 in
              subst (λ j. slice_index (values ++ value ∷ []) j < 2 ^ slice_index (map (λ n. n.width) tree.nets) j) (sym is) (rw (same, here) below)

  pub all_nets_within : IsTrue (nets_fit tree 0 tree.nets) → AreWithin (map (λ n. n.width) tree.nets) (net_values tree inputs cycle registers)
  all_nets_within fits = nets_within [] tree.nets [] refl refl fits (λ k inside. absurd (omega (arith, inside)))

resets_within : (regs : List SvReg) → list_all reset_fits regs ≡ true → AreWithin (map (λ r. r.width) regs) (map (λ r. r.reset.value) regs)
resets_within [] fit k inside = absurd (omega (arith, inside))
resets_within (reg ∷ regs) fit zero inside =
    let parts = and_parts (reset_fits reg) (list_all reset_fits regs) fit in
    let one = and_parts (is_number reg.reset) (reg.reset.width == reg.width) parts.0 in
    moved reg.reset.value reg.reset.width reg.width one.1 (ltb-true reg.reset.value (2 ^ reg.reset.width) (and_parts (is_width reg.reset.width) (nat_lt reg.reset.value (2 ^ reg.reset.width)) one.0).1)
resets_within (reg ∷ regs) fit (suc k) inside =
    resets_within regs (and_parts (reset_fits reg) (list_all reset_fits regs) fit).1 k (omega (arith, inside))

nexts_within : (tree : Module) (value : SvOperand → ℕ) → ((width : ℕ) (x : SvOperand) → gives tree width x ≡ true → value x < 2 ^ width)
    → (regs : List SvReg) (nexts : List SvOperand) → nexts_fit tree regs nexts ≡ true
    → (length (map value nexts) ≡ length regs) × AreWithin (map (λ r. r.width) regs) (map value nexts)
nexts_within tree value each [] [] fit = (refl, λ k inside. absurd (omega (arith, inside)))
nexts_within tree value each [] (next ∷ nexts) fit = absurd (false≢true fit)
nexts_within tree value each (reg ∷ regs) [] fit = absurd (false≢true fit)
nexts_within tree value each (reg ∷ regs) (next ∷ nexts) fit =
    let parts = and_parts (gives tree reg.width next) (nexts_fit tree regs nexts) fit in
    let rest = nexts_within tree value each regs nexts parts.1 in
    (ap suc rest.0, at (each reg.width next parts.0) rest.1)
  where
    at : value next < 2 ^ reg.width → AreWithin (map (λ r. r.width) regs) (map value nexts) → AreWithin (map (λ r. r.width) (reg ∷ regs)) (map value (next ∷ nexts))
    at here later zero inside = here
    at here later (suc k) inside = later k (omega (arith, inside))

same_width : (w : ℕ) → (w == w) ≡ true
same_width w = grind (arith, nat_tests)

-- how many nets have been valued
after_length : (tree : Module) (inputs : Inputs) (cycle : ℕ) (registers values : List ℕ) (nets : List SvNet)
    → length (net_values_after tree inputs cycle registers values nets) ≡ length values + length nets
after_length tree inputs cycle registers values [] = omega arith
after_length tree inputs cycle registers values (net ∷ nets) =
    let value = operation_value tree inputs cycle registers values net.width net.op in
    let rest = after_length tree inputs cycle registers (values ++ value ∷ []) nets in
    let one = length-append values (value ∷ []) in
    omega (arith, rest, one)

module _ (tree : Module) (holds : IsWellFormed tree) (inputs : Inputs) (fit : InputsFit tree inputs) where
  settled_within : (cycle : ℕ) → cycle < inputs.count → (registers : List ℕ) → length registers ≡ length tree.regs → AreWithin (map (λ r. r.width) tree.regs) registers
      → (width : ℕ) (x : SvOperand) → gives tree width x ≡ true → settled_value tree inputs cycle registers x < 2 ^ width
  settled_within cycle short registers all within width x stands =
      let nets = all_nets_within tree inputs fit cycle short registers all within (points_of tree holds).nets in
      let count : length (net_values tree inputs cycle registers) ≡ length tree.nets = after_length tree inputs cycle registers [] tree.nets ∙ omega arith in
      of_width_within tree inputs fit cycle short registers all within (net_values tree inputs cycle registers) width x nets (rw count stands)

  pub registers_within : (cycle : ℕ) → cycle ≤ inputs.count → (length (registers_at tree inputs cycle) ≡ length tree.regs) × AreWithin (map (λ r. r.width) tree.regs) (registers_at tree inputs cycle)
  unfolding registers_at
  registers_within zero short = (length-map tree.regs (λ r. r.reset.value), resets_within tree.regs (points_of tree holds).resets)
  registers_within (suc cycle) short =
      let before = registers_within cycle (omega arith) in
      nexts_within tree (settled_value tree inputs cycle (registers_at tree inputs cycle)) (settled_within cycle (omega arith) (registers_at tree inputs cycle) before.0 before.1) tree.regs tree.nexts (points_of tree holds).nexts

  -- an operand that stands once all nets are valued
  pub all_within : (cycle : ℕ) → cycle < inputs.count → (x : SvOperand) → operand_stands tree (length tree.nets) x ≡ true
      → settled_value tree inputs cycle (registers_at tree inputs cycle) x < 2 ^ operand_width tree x
  all_within cycle short x stands =
      let now = registers_within cycle (omega arith) in
      settled_within cycle short (registers_at tree inputs cycle) now.0 now.1 (operand_width tree x) x
      (and_from (operand_stands tree (length tree.nets) x) (operand_width tree x == operand_width tree x) stands (same_width (operand_width tree x)))
