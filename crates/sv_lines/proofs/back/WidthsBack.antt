-- Widths: what a draft says of the width of an operand that stands is what the module says, so an operator that fits the
-- module fits the draft.
use Rattle.std.proofs.Common.{◌≡◌, ℕ, ◌<◌, ◌≤◌, true, ◌&&◌, List, length, map, Option, Some, None, refl, ap, arith}
use Rattle.std.proofs.lemmas.Bool.{and_parts}
use Rattle.std.proofs.lemmas.List.{get_or_past, length-map}
use Rattle.std.proofs.lemmas.Bool.Decides.{nat_tests}
use Rattle.std.proofs.lemmas.Option.{get_or_from_slice_get}
use Rattle.std.specs.Prelude.{◌==◌, slice_get, slice_index, nat_le}
use Rattle.std.specs.List.{list_all}
use Rattle.sv_tree.specs.declared.tree.SvPort.{SvPort}
use Rattle.sv_tree.specs.declared.tree.SvReg.{SvReg}
use Rattle.sv_tree.specs.declared.tree.SvNet.{SvNet}
use Rattle.sv_tree.specs.declared.tree.SvRef.{SvRef}
use Rattle.sv_tree.specs.declared.tree.SvRef.TheVariants.{Data, Valid, Ack, Reg, Net}
use Rattle.sv_tree.specs.declared.tree.SvOperand.{SvOperand}
use Rattle.sv_tree.specs.declared.tree.SvOperand.TheVariants.{Ref, Lit}
use Rattle.sv_tree.specs.declared.tree.SvOp.{SvOp}
use Rattle.sv_tree.specs.declared.tree.SvOp.TheVariants.{Not, Bin, Slice, Choose}
use Rattle.sv_tree.specs.Limits.{widest}
use Rattle.sv_tree.specs.Module.{Module}
use Rattle.sv_tree.specs.WellFormed.{is_width, ref_stands, operand_stands, ref_width, operand_width, is_operand_of, bin_widths_fit, slice_widths_fit, op_fits}
use Rattle.sv_lines.specs.Operands.{widths_fit}
use Rattle.sv_lines.proofs.read.Decided.{number_same, same_number}
use Rattle.sv_lines.proofs.read.Indices.{map_there, none_there}
use Rattle.sv_lines.proofs.back.NamesBack.{all_at, GoodParts, Known}

pub ref_width_same : (tree draft : Module) (known : ℕ) (ref : SvRef) → Known draft tree known → ref_stands tree known ref ≡ true → ref_width draft ref ≡ ref_width tree ref
ref_width_same tree draft known (Data index) has stands = ap (λ (ports : List SvPort). slice_index (map (λ p. p.width) ports) index) has.ports_same
ref_width_same tree draft known (Valid index) has stands = refl
ref_width_same tree draft known (Ack index) has stands = refl
ref_width_same tree draft known (Reg index) has stands = ap (λ (widths : List ℕ). slice_index widths index) has.regs_wide
ref_width_same tree draft known (Net net) has stands =
    let below : net < known = grind (arith, nat_tests) in
    has.nets_wide net below

pub operand_width_same : (tree draft : Module) (known : ℕ) (x : SvOperand) → Known draft tree known → operand_stands tree known x ≡ true
    → operand_width draft x ≡ operand_width tree x
operand_width_same tree draft known (Ref ref) has stands = ref_width_same tree draft known ref has stands
operand_width_same tree draft known (Lit number) has stands = refl

pub record IsOperandOf (tree : Module) (known width : ℕ) (x : SvOperand) : Type 0 where
  pub stands : operand_stands tree known x ≡ true
  pub wide : operand_width tree x ≡ width

pub operand_of_width_is : (tree : Module) (known width : ℕ) (x : SvOperand) → is_operand_of tree known width x ≡ true → IsOperandOf tree known width x
operand_of_width_is tree known width x e =
    let parts = and_parts (operand_stands tree known x) (operand_width tree x == width) e in
    record { stands = parts.0; wide = number_same (operand_width tree x) width parts.1 }

pub op_widths_fit : (tree draft : Module) (known width : ℕ) (op : SvOp) → Known draft tree known → op_fits tree known width op ≡ true → widths_fit draft width op ≡ true
op_widths_fit tree draft known width (Not x) has fits =
    let of = operand_of_width_is tree known width x fits in
    rw (operand_width_same tree draft known x has of.stands, of.wide) (same_number width)
op_widths_fit tree draft known width (Bin op x y) has fits =
    let parts = and_parts (operand_stands tree known x && operand_stands tree known y) (bin_widths_fit op width (operand_width tree x) (operand_width tree y)) fits in
    let stand = and_parts (operand_stands tree known x) (operand_stands tree known y) parts.0 in
    rw (operand_width_same tree draft known x has stand.0, operand_width_same tree draft known y has stand.1) parts.1
op_widths_fit tree draft known width (Slice of high low) has fits =
    let parts = and_parts (ref_stands tree known of) (slice_widths_fit high low width (ref_width tree of)) fits in
    rw (ref_width_same tree draft known of has parts.0) parts.1
op_widths_fit tree draft known width (Choose condition x y) has fits =
    let last = and_parts (is_operand_of tree known 1 condition && is_operand_of tree known width x) (is_operand_of tree known width y) fits in
    let first = and_parts (is_operand_of tree known 1 condition) (is_operand_of tree known width x) last.0 in
    let of_condition = operand_of_width_is tree known 1 condition first.0 in
    let of_x = operand_of_width_is tree known width x first.1 in
    let of_y = operand_of_width_is tree known width y last.1 in
    rw (
      operand_width_same tree draft known condition has of_condition.stands,
      of_condition.wide,
      operand_width_same tree draft known x has of_x.stands,
      of_x.wide,
      operand_width_same tree draft known y has of_y.stands,
      of_y.wide,
      same_number width,
    ) refl

-- References are at most `widest` bits wide.

width_within : (width : ℕ) → is_width width ≡ true → width ≤ widest
width_within width e =
    let upper = (and_parts (nat_le 1 width) (nat_le width widest) e).1 in
    grind (arith, nat_tests)

index_within : {X : Type 0} (width : X → ℕ) (items : List X) (index : ℕ) (found : Option X) → slice_get items index ≡ found → list_all (λ x. is_width (width x)) items ≡ true
    → slice_index (map width items) index ≤ widest
index_within width items index (Some item) there all =
    let is : slice_index (map width items) index ≡ width item = get_or_from_slice_get (map width items) index (width item) 0 (map_there width items index item there) in
    let within = width_within (width item) (all_at (λ x. is_width (width x)) items index item all there) in
    rw is within
index_within width items index None there all =
    let past : length items ≤ index = none_there items index there in
    let past_too : length (map width items) ≤ index = omega (arith, length-map items width) in
    rw (get_or_past (map width items) index 0 past_too) (omega arith)

pub ref_within : (tree : Module) (ref : SvRef) → GoodParts tree → ref_width tree ref ≤ widest
ref_within tree (Data index) good = index_within (λ (p : SvPort). p.width) tree.ports index (slice_get tree.ports index) refl good.ports_wide
ref_within tree (Valid index) good = omega arith
ref_within tree (Ack index) good = omega arith
ref_within tree (Reg index) good = index_within (λ (r : SvReg). r.width) tree.regs index (slice_get tree.regs index) refl good.regs_wide
ref_within tree (Net index) good = index_within (λ (n : SvNet). n.width) tree.nets index (slice_get tree.nets index) refl good.nets_wide
