-- No line feed stands in the text of an operator whose operands stand.
use Rattle.std.proofs.Common.{◌≡◌, ℕ, ◌+◌, ◌<◌, ◌≤◌, ◌^◌, true, ◌&&◌, ◌++◌, refl, arith}
use Rattle.std.proofs.lemmas.Bool.{and_parts}
use Rattle.std.proofs.lemmas.Bool.Decides.{nat_tests}
use Rattle.std.specs.Prelude.{◌==◌, nat_lt, nat_le, codes, decimal}
use Rattle.core_term.specs.declared.operators.BinOp.{BinOp}
use Rattle.core_term.specs.declared.operators.BinOp.TheVariants.{Add, Sub, Mul, And, Or, Xor, Eq, Ne, Lt, Le, Gt, Ge, Shl, Shr, Cat}
use Rattle.sv_tree.specs.declared.tree.SvOperand.{SvOperand}
use Rattle.sv_tree.specs.declared.tree.SvOperand.TheVariants.{Ref}
use Rattle.sv_tree.specs.declared.tree.SvOp.{SvOp}
use Rattle.sv_tree.specs.declared.tree.SvOp.TheVariants.{Not, Bin, Slice, Choose}
use Rattle.sv_tree.specs.Module.{Module}
use Rattle.sv_tree.specs.Text.{operand_text, ref_text, op_text, operator_text, before_text, after_text}
use Rattle.sv_tree.specs.WellFormed.{ref_stands, operand_stands, ref_width, operand_width, is_operand_of, bin_widths_fit, slice_widths_fit, op_fits}
use Rattle.sv_lines.proofs.back.Goes.{Quiet}
use Rattle.sv_lines.proofs.back.BytesBack.{quiet_join, quiet_decimal, quiet_operand}
use Rattle.sv_lines.proofs.back.OperandTexts.{operand_is_text}
use Rattle.sv_lines.proofs.back.WidthsBack.{operand_of_width_is, ref_within}
use Rattle.sv_lines.proofs.back.OpsBack.{Stand}

pub operand_quiet : (tree draft : Module) (known : ℕ) (x : SvOperand) → Stand tree draft known → operand_stands tree known x ≡ true → Quiet (operand_text tree x)
operand_quiet tree draft known x stand stands = quiet_operand (operand_text tree x) (operand_is_text tree known x stand.good stand.has.nets_within stands).bytes

before_quiet : (op : BinOp) → Quiet (before_text op)
before_quiet Add = refl
before_quiet Sub = refl
before_quiet Mul = refl
before_quiet And = refl
before_quiet Or = refl
before_quiet Xor = refl
before_quiet Eq = refl
before_quiet Ne = refl
before_quiet Lt = refl
before_quiet Le = refl
before_quiet Gt = refl
before_quiet Ge = refl
before_quiet Shl = refl
before_quiet Shr = refl
before_quiet Cat = refl

operator_quiet : (op : BinOp) → Quiet (operator_text op)
operator_quiet Add = refl
operator_quiet Sub = refl
operator_quiet Mul = refl
operator_quiet And = refl
operator_quiet Or = refl
operator_quiet Xor = refl
operator_quiet Eq = refl
operator_quiet Ne = refl
operator_quiet Lt = refl
operator_quiet Le = refl
operator_quiet Gt = refl
operator_quiet Ge = refl
operator_quiet Shl = refl
operator_quiet Shr = refl
operator_quiet Cat = refl

after_quiet : (op : BinOp) → Quiet (after_text op)
after_quiet Add = refl
after_quiet Sub = refl
after_quiet Mul = refl
after_quiet And = refl
after_quiet Or = refl
after_quiet Xor = refl
after_quiet Eq = refl
after_quiet Ne = refl
after_quiet Lt = refl
after_quiet Le = refl
after_quiet Gt = refl
after_quiet Ge = refl
after_quiet Shl = refl
after_quiet Shr = refl
after_quiet Cat = refl

pub op_quiet : (tree draft : Module) (known width : ℕ) (op : SvOp) → Stand tree draft known → op_fits tree known width op ≡ true → Quiet (op_text tree op)
op_quiet tree draft known width (Not x) stand fits = operand_quiet tree draft known x stand (operand_of_width_is tree known width x fits).stands
op_quiet tree draft known width (Bin op x y) stand fits =
    let parts = and_parts (operand_stands tree known x && operand_stands tree known y) (bin_widths_fit op width (operand_width tree x) (operand_width tree y)) fits in
    let stands = and_parts (operand_stands tree known x) (operand_stands tree known y) parts.0 in
    let last = quiet_join (operand_text tree y) (after_text op) (operand_quiet tree draft known y stand stands.1) (after_quiet op) in
    let middle = quiet_join (operator_text op) (operand_text tree y ++ after_text op) (operator_quiet op) last in
    quiet_join (before_text op) (operand_text tree x ++ (operator_text op ++ (operand_text tree y ++ after_text op))) (before_quiet op)
    (quiet_join (operand_text tree x) (operator_text op ++ (operand_text tree y ++ after_text op)) (operand_quiet tree draft known x stand stands.0) middle)
op_quiet tree draft known width (Slice of high low) stand fits =
    let parts = and_parts (ref_stands tree known of) (slice_widths_fit high low width (ref_width tree of)) fits in
    let orders = and_parts (nat_le low high && nat_lt high (ref_width tree of)) (width + low == high + 1) parts.1 in
    let limits = and_parts (nat_le low high) (nat_lt high (ref_width tree of)) orders.0 in
    let lower = limits.0 in
    let upper = limits.1 in
    let within = ref_within tree of stand.good in
    let ordered : low ≤ high = grind (arith, nat_tests) in
    let below : high < ref_width tree of = grind (arith, nat_tests) in
    let high_small : high < 2 ^ 64 = omega arith in
    let low_small : low < 2 ^ 64 = omega arith in
    let last = quiet_join (decimal low) (codes "]") (quiet_decimal low low_small) refl in
    let middle = quiet_join (decimal high) (codes ":" ++ (decimal low ++ codes "]")) (quiet_decimal high high_small) last in
    quiet_join (ref_text tree of) (codes "[" ++ (decimal high ++ (codes ":" ++ (decimal low ++ codes "]")))) (operand_quiet tree draft known (Ref of) stand parts.0) middle
op_quiet tree draft known width (Choose condition x y) stand fits =
    let last = and_parts (is_operand_of tree known 1 condition && is_operand_of tree known width x) (is_operand_of tree known width y) fits in
    let first = and_parts (is_operand_of tree known 1 condition) (is_operand_of tree known width x) last.0 in
    let c_quiet = operand_quiet tree draft known condition stand (operand_of_width_is tree known 1 condition first.0).stands in
    let x_quiet = operand_quiet tree draft known x stand (operand_of_width_is tree known width x first.1).stands in
    let y_quiet = operand_quiet tree draft known y stand (operand_of_width_is tree known width y last.1).stands in
    quiet_join (operand_text tree condition) (codes " ? " ++ (operand_text tree x ++ (codes " : " ++ operand_text tree y))) c_quiet
    (quiet_join (operand_text tree x) (codes " : " ++ operand_text tree y) x_quiet y_quiet)
