-- The text of an operator of a net is read back as that operator, up to the end of its line.
use Rattle.std.proofs.Common.{◌≡◌, ℕ, ◌+◌, ◌<◌, ◌≤◌, ◌^◌, true, false, ◌&&◌, List, [], ◌∷◌, ◌++◌, Some, None, refl, arith, append_assoc}
use Rattle.std.proofs.lemmas.Bool.{and_parts}
use Rattle.std.proofs.lemmas.Bool.Decides.{nat_tests}
use Rattle.std.specs.Prelude.{◌==◌, nat_lt, nat_le, codes, decimal}
use Rattle.core_term.specs.declared.operators.BinOp.{BinOp}
use Rattle.core_term.specs.declared.operators.BinOp.TheVariants.{Add, Sub, Mul, And, Or, Xor, Eq, Ne, Lt, Le, Gt, Ge, Shl, Shr, Cat}
use Rattle.sv_tree.specs.declared.tree.SvRef.{SvRef}
use Rattle.sv_tree.specs.declared.tree.SvOperand.{SvOperand}
use Rattle.sv_tree.specs.declared.tree.SvOperand.TheVariants.{Ref}
use Rattle.sv_tree.specs.declared.tree.SvOp.{SvOp}
use Rattle.sv_tree.specs.declared.tree.SvOp.TheVariants.{Not, Bin, Slice, Choose}
use Rattle.sv_tree.specs.Limits.{widest}
use Rattle.sv_tree.specs.Module.{Module}
use Rattle.sv_tree.specs.Text.{operand_text, ref_text, op_text, operator_text}
use Rattle.sv_tree.specs.WellFormed.{ref_stands, operand_stands, ref_width, operand_width, is_operand_of, bin_widths_fit, slice_widths_fit, op_fits}
use Rattle.sv_lines.specs.Pieces.{after}
use Rattle.sv_lines.specs.Operands.{is_operand_byte, op_of}
use Rattle.sv_lines.proofs.read.PiecesRead.{number_back}
use Rattle.sv_lines.proofs.back.NamesBack.{GoodParts, Known}
use Rattle.sv_lines.proofs.back.OperandTexts.{operand_is_text, front_operand, last_operand_back, begins_otherwise}
use Rattle.sv_lines.proofs.back.WidthsBack.{operand_of_width_is, ref_within}
use Rattle.sv_lines.proofs.back.Signs.{Sign, sign_back, is_add, is_sub, is_mul, is_and, is_or, is_xor, is_eq, is_ne, is_lt, is_le, is_gt, is_ge, is_shl, is_shr}

-- The text up to the end of the line, nested to the right.

end_of_line : (a b c d rest : List ℕ) → (a ++ (b ++ (c ++ d))) ++ rest ≡ a ++ (b ++ (c ++ (d ++ rest)))
end_of_line a b c d rest = simp append_assoc

pub record Stand (tree draft : Module) (known : ℕ) : Type 0 where
  pub good : GoodParts tree
  pub has : Known draft tree known

-- an operand in front: neither `~` nor `{`
begins : (tree draft : Module) (known : ℕ) (x : SvOperand) (rest : List ℕ) (byte : ℕ) → Stand tree draft known → operand_stands tree known x ≡ true → is_operand_byte byte ≡ false
    → after (byte ∷ []) (operand_text tree x ++ rest) ≡ None
begins tree draft known x rest byte stand stands fails =
    begins_otherwise byte [] (operand_text tree x) rest fails (operand_is_text tree known x stand.good stand.has.nets_within stands)

-- `~X;`
not_back : (tree draft : Module) (known : ℕ) (x : SvOperand) → Stand tree draft known → operand_stands tree known x ≡ true
    → op_of draft (op_text tree (Not x) ++ codes ";") ≡ Some (Not x)
not_back tree draft known x stand stands = rw (last_operand_back tree draft known x stand.good stand.has stands) refl

-- `X + X;` and so on
pair_back : (tree draft : Module) (known : ℕ) (op : BinOp) (x y : SvOperand) → Sign op → Stand tree draft known → operand_stands tree known x ≡ true
    → operand_stands tree known y ≡ true → op_of draft (operand_text tree x ++ (operator_text op ++ (operand_text tree y ++ codes ";"))) ≡ Some (Bin op x y)
pair_back tree draft known op x y is_sign stand x_stands y_stands =
    let rest = operand_text tree y ++ codes ";" in
    let sign = sign_back {op = op} rest is_sign in
    let no_not = begins tree draft known x (operator_text op ++ rest) 126 stand x_stands refl in
    let no_brace = begins tree draft known x (operator_text op ++ rest) 123 stand x_stands refl in
    let first = front_operand tree draft known x (operator_text op ++ rest) stand.good stand.has x_stands sign.stops in
    let last = last_operand_back tree draft known y stand.good stand.has y_stands in
    rw (no_not, no_brace, first, sign.no_slice, sign.no_choice, sign.read, last) refl

-- `{X, X};`
joined_back : (tree draft : Module) (known : ℕ) (x y : SvOperand) → Stand tree draft known → operand_stands tree known x ≡ true → operand_stands tree known y ≡ true
    → op_of draft (codes "{" ++ (operand_text tree x ++ (codes ", " ++ (operand_text tree y ++ codes "};")))) ≡ Some (Bin Cat x y)
joined_back tree draft known x y stand x_stands y_stands =
    rw (
      front_operand tree draft known x (codes ", " ++ (operand_text tree y ++ codes "};")) stand.good stand.has x_stands refl,
      front_operand tree draft known y (codes "};") stand.good stand.has y_stands refl,
    ) refl

-- `N[h:l];`
sliced_back : (tree draft : Module) (known : ℕ) (of : SvRef) (high low : ℕ) → Stand tree draft known → ref_stands tree known of ≡ true → high < widest → low ≤ high
    → op_of draft (ref_text tree of ++ (codes "[" ++ (decimal high ++ (codes ":" ++ (decimal low ++ codes "];"))))) ≡ Some (Slice of high low)
sliced_back tree draft known of high low stand stands below ordered =
    let inner = decimal high ++ (codes ":" ++ (decimal low ++ codes "];")) in
    let no_not = begins tree draft known (Ref of) (codes "[" ++ inner) 126 stand stands refl in
    let no_brace = begins tree draft known (Ref of) (codes "[" ++ inner) 123 stand stands refl in
    let first = front_operand tree draft known (Ref of) (codes "[" ++ inner) stand.good stand.has stands refl in
    let high_small : nat_lt high (2 ^ 64) ≡ true = grind (arith, nat_tests) in
    let low_small : nat_lt low (2 ^ 64) ≡ true = grind (arith, nat_tests) in
    let is_below : nat_lt high widest ≡ true = grind (arith, nat_tests) in
    let is_ordered : nat_le low high ≡ true = grind (arith, nat_tests) in
    let high_read = number_back high (codes ":" ++ (decimal low ++ codes "];")) high_small refl in
    let low_read = number_back low (codes "];") low_small refl in
    rw (no_not, no_brace, first, high_read, low_read, is_below, is_ordered) refl

-- `X ? X : X;`
chosen_back : (tree draft : Module) (known : ℕ) (condition x y : SvOperand) → Stand tree draft known → operand_stands tree known condition ≡ true
    → operand_stands tree known x ≡ true → operand_stands tree known y ≡ true
    → op_of draft (operand_text tree condition ++ (codes " ? " ++ (operand_text tree x ++ (codes " : " ++ (operand_text tree y ++ codes ";"))))) ≡ Some (Choose condition x y)
chosen_back tree draft known condition x y stand c_stands x_stands y_stands =
    let behind = operand_text tree x ++ (codes " : " ++ (operand_text tree y ++ codes ";")) in
    let no_not = begins tree draft known condition (codes " ? " ++ behind) 126 stand c_stands refl in
    let no_brace = begins tree draft known condition (codes " ? " ++ behind) 123 stand c_stands refl in
    let first = front_operand tree draft known condition (codes " ? " ++ behind) stand.good stand.has c_stands refl in
    let second = front_operand tree draft known x (codes " : " ++ (operand_text tree y ++ codes ";")) stand.good stand.has x_stands refl in
    let last = last_operand_back tree draft known y stand.good stand.has y_stands in
    rw (no_not, no_brace, first, second, last) refl

-- Each operator, as it is written.

pair_text : (tree : Module) (x y : SvOperand) (sign : List ℕ) → (operand_text tree x ++ (sign ++ (operand_text tree y ++ []))) ++ codes ";"
    ≡ operand_text tree x ++ (sign ++ (operand_text tree y ++ codes ";"))
pair_text tree x y sign = end_of_line (operand_text tree x) sign (operand_text tree y) [] (codes ";")

bin_back : (tree draft : Module) (known : ℕ) (op : BinOp) (x y : SvOperand) → Stand tree draft known → operand_stands tree known x ≡ true
    → operand_stands tree known y ≡ true → op_of draft (op_text tree (Bin op x y) ++ codes ";") ≡ Some (Bin op x y)
bin_back tree draft known Add x y stand first second = rw (pair_text tree x y (operator_text Add)) (pair_back tree draft known Add x y is_add stand first second)
bin_back tree draft known Sub x y stand first second = rw (pair_text tree x y (operator_text Sub)) (pair_back tree draft known Sub x y is_sub stand first second)
bin_back tree draft known Mul x y stand first second = rw (pair_text tree x y (operator_text Mul)) (pair_back tree draft known Mul x y is_mul stand first second)
bin_back tree draft known And x y stand first second = rw (pair_text tree x y (operator_text And)) (pair_back tree draft known And x y is_and stand first second)
bin_back tree draft known Or x y stand first second = rw (pair_text tree x y (operator_text Or)) (pair_back tree draft known Or x y is_or stand first second)
bin_back tree draft known Xor x y stand first second = rw (pair_text tree x y (operator_text Xor)) (pair_back tree draft known Xor x y is_xor stand first second)
bin_back tree draft known Eq x y stand first second = rw (pair_text tree x y (operator_text Eq)) (pair_back tree draft known Eq x y is_eq stand first second)
bin_back tree draft known Ne x y stand first second = rw (pair_text tree x y (operator_text Ne)) (pair_back tree draft known Ne x y is_ne stand first second)
bin_back tree draft known Lt x y stand first second = rw (pair_text tree x y (operator_text Lt)) (pair_back tree draft known Lt x y is_lt stand first second)
bin_back tree draft known Le x y stand first second = rw (pair_text tree x y (operator_text Le)) (pair_back tree draft known Le x y is_le stand first second)
bin_back tree draft known Gt x y stand first second = rw (pair_text tree x y (operator_text Gt)) (pair_back tree draft known Gt x y is_gt stand first second)
bin_back tree draft known Ge x y stand first second = rw (pair_text tree x y (operator_text Ge)) (pair_back tree draft known Ge x y is_ge stand first second)
bin_back tree draft known Shl x y stand first second = rw (pair_text tree x y (operator_text Shl)) (pair_back tree draft known Shl x y is_shl stand first second)
bin_back tree draft known Shr x y stand first second = rw (pair_text tree x y (operator_text Shr)) (pair_back tree draft known Shr x y is_shr stand first second)
bin_back tree draft known Cat x y stand first second =
    rw (end_of_line (operand_text tree x) (codes ", ") (operand_text tree y) (codes "}") (codes ";")) (joined_back tree draft known x y stand first second)

slice_text : (name high low : List ℕ) → (name ++ (codes "[" ++ (high ++ (codes ":" ++ (low ++ codes "]"))))) ++ codes ";"
    ≡ name ++ (codes "[" ++ (high ++ (codes ":" ++ (low ++ codes "];"))))
slice_text name high low = simp append_assoc

choice_text : (condition x y : List ℕ) → (condition ++ (codes " ? " ++ (x ++ (codes " : " ++ y)))) ++ codes ";" ≡ condition ++ (codes " ? " ++ (x ++ (codes " : " ++ (y ++ codes ";"))))
choice_text condition x y = simp append_assoc

pub op_back : (tree draft : Module) (known width : ℕ) (op : SvOp) → Stand tree draft known → op_fits tree known width op ≡ true
    → op_of draft (op_text tree op ++ codes ";") ≡ Some op
op_back tree draft known width (Not x) stand fits = not_back tree draft known x stand (operand_of_width_is tree known width x fits).stands
op_back tree draft known width (Bin op x y) stand fits =
    let parts = and_parts (operand_stands tree known x && operand_stands tree known y) (bin_widths_fit op width (operand_width tree x) (operand_width tree y)) fits in
    let stands = and_parts (operand_stands tree known x) (operand_stands tree known y) parts.0 in
    bin_back tree draft known op x y stand stands.0 stands.1
op_back tree draft known width (Slice of high low) stand fits =
    let parts = and_parts (ref_stands tree known of) (slice_widths_fit high low width (ref_width tree of)) fits in
    let orders = and_parts (nat_le low high && nat_lt high (ref_width tree of)) (width + low == high + 1) parts.1 in
    let limits = and_parts (nat_le low high) (nat_lt high (ref_width tree of)) orders.0 in
    let lower = limits.0 in
    let upper = limits.1 in
    let within = ref_within tree of stand.good in
    let ordered : low ≤ high = grind (arith, nat_tests) in
    let below_width : high < ref_width tree of = grind (arith, nat_tests) in
    let below : high < widest = omega arith in
    rw (slice_text (ref_text tree of) (decimal high) (decimal low)) (sliced_back tree draft known of high low stand parts.0 below ordered)
op_back tree draft known width (Choose condition x y) stand fits =
    let last = and_parts (is_operand_of tree known 1 condition && is_operand_of tree known width x) (is_operand_of tree known width y) fits in
    let first = and_parts (is_operand_of tree known 1 condition) (is_operand_of tree known width x) last.0 in
    let c_stands = (operand_of_width_is tree known 1 condition first.0).stands in
    let x_stands = (operand_of_width_is tree known width x first.1).stands in
    let y_stands = (operand_of_width_is tree known width y last.1).stands in
    rw (choice_text (operand_text tree condition) (operand_text tree x) (operand_text tree y)) (chosen_back tree draft known condition x y stand c_stands x_stands y_stands)
