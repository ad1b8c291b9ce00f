-- Operators between two operands: the sign is read back, and it is told from the sign of a slice and of a choice.
use Rattle.std.proofs.Common.{◌≡◌, ℕ, List, ◌++◌, Some, None, refl}
use Rattle.core_term.specs.declared.operators.BinOp.{BinOp}
use Rattle.core_term.specs.declared.operators.BinOp.TheVariants.{Add, Sub, Mul, And, Or, Xor, Eq, Ne, Lt, Le, Gt, Ge, Shl, Shr}
use Rattle.std.specs.Prelude.{codes}
use Rattle.sv_tree.specs.Text.{operator_text}
use Rattle.sv_lines.specs.Pieces.{after}
use Rattle.sv_lines.specs.Operands.{is_operand_byte, operator_at}
use Rattle.sv_lines.proofs.read.PiecesRead.{StopsFirst}

-- what is between two operands, for all operators but one
pub record IsSign (op : BinOp) (rest : List ℕ) : Type 0 where
  pub read : operator_at (operator_text op ++ rest) ≡ Some (op, rest)
  pub no_slice : after (codes "[") (operator_text op ++ rest) ≡ None
  pub no_choice : after (codes " ? ") (operator_text op ++ rest) ≡ None
  pub stops : StopsFirst is_operand_byte (operator_text op ++ rest)

pub data Sign : BinOp → Type 0 where
  is_add : Sign Add
  is_sub : Sign Sub
  is_mul : Sign Mul
  is_and : Sign And
  is_or : Sign Or
  is_xor : Sign Xor
  is_eq : Sign Eq
  is_ne : Sign Ne
  is_lt : Sign Lt
  is_le : Sign Le
  is_gt : Sign Gt
  is_ge : Sign Ge
  is_shl : Sign Shl
  is_shr : Sign Shr

pub sign_back : {op : BinOp} (rest : List ℕ) → Sign op → IsSign op rest
sign_back rest is_add = record { read = refl; no_slice = refl; no_choice = refl; stops = refl }
sign_back rest is_sub = record { read = refl; no_slice = refl; no_choice = refl; stops = refl }
sign_back rest is_mul = record { read = refl; no_slice = refl; no_choice = refl; stops = refl }
sign_back rest is_and = record { read = refl; no_slice = refl; no_choice = refl; stops = refl }
sign_back rest is_or = record { read = refl; no_slice = refl; no_choice = refl; stops = refl }
sign_back rest is_xor = record { read = refl; no_slice = refl; no_choice = refl; stops = refl }
sign_back rest is_eq = record { read = refl; no_slice = refl; no_choice = refl; stops = refl }
sign_back rest is_ne = record { read = refl; no_slice = refl; no_choice = refl; stops = refl }
sign_back rest is_lt = record { read = refl; no_slice = refl; no_choice = refl; stops = refl }
sign_back rest is_le = record { read = refl; no_slice = refl; no_choice = refl; stops = refl }
sign_back rest is_gt = record { read = refl; no_slice = refl; no_choice = refl; stops = refl }
sign_back rest is_ge = record { read = refl; no_slice = refl; no_choice = refl; stops = refl }
sign_back rest is_shl = record { read = refl; no_slice = refl; no_choice = refl; stops = refl }
sign_back rest is_shr = record { read = refl; no_slice = refl; no_choice = refl; stops = refl }
