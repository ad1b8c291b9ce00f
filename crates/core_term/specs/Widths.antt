-- Widths of expressions and terms. A term that is unit has the width 0.
use Rattle.std.specs.Prelude.{ℕ, ◌+◌, ◌-◌, ◌==◌, if◌then◌else◌, true}
use Rattle.core_term.specs.declared.operators.BinOp.{BinOp}
use Rattle.core_term.specs.declared.operators.BinOp.TheVariants.{Add, Sub, Mul, And, Or, Xor, Eq, Ne, Lt, Le, Gt, Ge}
use Rattle.core_term.specs.declared.operators.BinOp.TheVariants.{Shl, Shr, Cat}
use Rattle.core_term.specs.Term.{Expr, Lit, Var, Reg, Not, Bin, Slice, Choose, Term, One, Then, Both, Act, Recv, If}
use Rattle.core_term.specs.Term.{Block, Wait, Pure, site}

-- the widths of the registers and ports of a process, and of the variables in scope
pub record Widths : Type 0 where
  pub registers : ℕ → ℕ
  pub ports : ℕ → ℕ
  pub variables : ℕ → ℕ

-- the variable of the site p has the width w
abbrev pub bind_width : Widths → ℕ → ℕ → Widths
bind_width widths p w =
    record {
      registers = widths.registers;
      ports = widths.ports;
      variables = λ y. if y == p then w else widths.variables y;
    }

-- of the result of an operator, from those of its operands
abbrev pub result_width : BinOp → ℕ → ℕ → ℕ
result_width Add w v = w
result_width Sub w v = w
result_width Mul w v = w
result_width And w v = w
result_width Or w v = w
result_width Xor w v = w
result_width Eq w v = 1
result_width Ne w v = 1
result_width Lt w v = 1
result_width Le w v = 1
result_width Gt w v = 1
result_width Ge w v = 1
result_width Shl w v = w
result_width Shr w v = w
result_width Cat w v = w + v

abbrev pub expr_width : Widths → Expr → ℕ
expr_width widths (Lit w n) = w
expr_width widths (Var y) = widths.variables y
expr_width widths (Reg r) = widths.registers r
expr_width widths (Not w e) = w
expr_width widths (Bin o w v a b) = w
expr_width widths (Slice y high low) = high + 1 - low
expr_width widths (Choose c a b) = expr_width widths a

-- a `recv` has the width of its message, an `if` that has a value that of its first side, and a chain that of its last
-- part
abbrev mutual
  pub term_width : Widths → Term → ℕ
  term_width widths (One a) = act_width widths a
  term_width widths (Then a t) = term_width (bind_width widths (site a) (act_width widths a)) t
  term_width widths (Both a t) = term_width (bind_width widths (site a) (act_width widths a)) t

  pub act_width : Widths → Act → ℕ
  act_width widths (Recv p m) = widths.ports m
  act_width widths (If p e t u true) = term_width widths t
  act_width widths (Block p t) = term_width widths t
  act_width widths (Wait p y) = widths.variables y
  act_width widths (Pure p e) = expr_width widths e
  act_width widths a = 0
