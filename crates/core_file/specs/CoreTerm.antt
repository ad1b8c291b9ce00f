-- The core term that a term of the tree is, once names stand for numbers. A word stands for the innermost variable of
-- its name. The acts have the sites from `low` on in the order of the tree, each before the acts inside it.
--
-- Every term of the tree has one. It counts only where no check of the term fails: an unknown name stands for some
-- number, and what has no value has the width 0.
use Rattle.std.specs.Prelude.{ℕ, ◌+◌, nat_lt, Bool, ◌&&◌}
use Rattle.anvil_tree.specs.declared.expr.BinOp.{BinOp}
use Rattle.anvil_tree.specs.declared.expr.BinOp.TheVariants as written
use Rattle.anvil_tree.specs.Tree as tree
use Rattle.anvil_tree.specs.Few.{act_count, act_count_in}
use Rattle.core_term.specs.declared.operators.BinOp.{BinOp as CoreOp}
use Rattle.core_term.specs.declared.operators.BinOp.TheVariants as core
use Rattle.core_term.specs.Term as term
use Rattle.core_term.specs.Widths.{expr_width, term_width}
use Rattle.core_term.specs.View.{not_of_width, operation_of}
use Rattle.core_file.specs.Scope.{Scope, site_of, number_among, port_number, after}

abbrev pub operator_of : BinOp → CoreOp
operator_of written.Add = core.Add
operator_of written.Sub = core.Sub
operator_of written.Mul = core.Mul
operator_of written.And = core.And
operator_of written.Or = core.Or
operator_of written.Xor = core.Xor
operator_of written.Eq = core.Eq
operator_of written.Ne = core.Ne
operator_of written.Lt = core.Lt
operator_of written.Le = core.Le
operator_of written.Gt = core.Gt
operator_of written.Ge = core.Ge
operator_of written.Shl = core.Shl
operator_of written.Shr = core.Shr
operator_of written.Cat = core.Cat

-- an expression in a scope
abbrev pub core_expr : Scope → tree.Expr → term.Expr
core_expr scope (tree.literal at width value) = term.Lit width value
core_expr scope (tree.variable at name) = term.Var (site_of scope.variables name)
core_expr scope (tree.shown at register) = term.Reg (number_among scope.registers register)
core_expr scope (tree.inverse at operand) = not_of_width scope.widths (core_expr scope operand)
core_expr scope (tree.binary at operator first second) =
    operation_of scope.widths (operator_of operator) (core_expr scope first) (core_expr scope second)
core_expr scope (tree.slice at name high low) = term.Slice (site_of scope.variables name) high low
core_expr scope (tree.choice at condition first second) =
    term.Choose (core_expr scope condition) (core_expr scope first) (core_expr scope second)
core_expr scope (tree.unit at) = term.Lit 0 0

-- the width of an expression in a scope
abbrev pub width_of : Scope → tree.Expr → ℕ
width_of scope expr = expr_width scope.widths (core_expr scope expr)

-- an act that is an expression: a word alone is a wait, and `()` does nothing
abbrev pub core_pure : Scope → ℕ → tree.Expr → term.Act
core_pure scope low (tree.variable at name) = term.Wait low (site_of scope.variables name)
core_pure scope low (tree.unit at) = term.Nothing low
core_pure scope low expr = term.Pure low (core_expr scope expr)

-- an `if` with both sides has a value where both sides have one
abbrev pub is_worded : Scope → term.Term → term.Term → Bool
is_worded scope first second = nat_lt 0 (term_width scope.widths first) && nat_lt 0 (term_width scope.widths second)

-- a term and an act in a scope, with sites from `low` on
abbrev mutual
  pub core_term : Scope → ℕ → tree.Term → term.Term
  core_term scope low (tree.single act) = term.One (core_act scope low act)
  core_term scope low (tree.follow bound act rest) =
      term.Then (core_act scope low act)
      (core_term (after scope bound low (core_act scope low act)) (low + act_count_in act) rest)
  core_term scope low (tree.beside bound act rest) =
      term.Both (core_act scope low act)
      (core_term (after scope bound low (core_act scope low act)) (low + act_count_in act) rest)

  pub core_act : Scope → ℕ → tree.Act → term.Act
  core_act scope low (tree.cycle at count count_at) = term.Cycle low count
  core_act scope low (tree.set at register register_at value) =
      term.Set low (number_among scope.registers register) (core_expr scope value)
  core_act scope low (tree.send at endpoint endpoint_at message message_at value) =
      term.Send low (port_number scope endpoint message) (core_expr scope value)
  core_act scope low (tree.receive at endpoint endpoint_at message message_at) =
      term.Recv low (port_number scope endpoint message)
  core_act scope low (tree.when at condition first) =
      term.When low (core_expr scope condition) (core_term scope (low + 1) first)
  core_act scope low (tree.either at condition first second) =
      term.If low (core_expr scope condition)
      (core_term scope (low + 1) first)
      (core_term scope (low + (1 + act_count first)) second)
      (is_worded scope (core_term scope (low + 1) first) (core_term scope (low + (1 + act_count first)) second))
  core_act scope low (tree.block at body) = term.Block low (core_term scope (low + 1) body)
  core_act scope low (tree.pure at expr) = core_pure scope low expr
