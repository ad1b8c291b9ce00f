-- The checks of an expression, in the order of the text: operands first, from left to right, and then the node. What
-- has no value has the width 0.
use Rattle.std.specs.Prelude.{ℕ, ◌+◌, nat_lt, nat_le, false, ◌&&◌, [], ◌∷◌, ◌++◌}
use Rattle.anvil_tree.specs.declared.expr.BinOp.{BinOp}
use Rattle.anvil_tree.specs.declared.expr.BinOp.TheVariants as written
use Rattle.anvil_tree.specs.Tree as tree
use Rattle.anvil_tree.specs.Tree.{Name}
use Rattle.core_term.specs.Limits.{widest}
use Rattle.first_check.specs.Check.{must}
use Rattle.core_file.specs.declared.error.NameErr.TheVariants.{Unknown, BadWidth, UnitUsed}
use Rattle.core_file.specs.Scope.{Scope, is_among, is_bound, site_of}
use Rattle.core_file.specs.CoreTerm.{width_of}
use Rattle.core_file.specs.Refused.{Checks, are_equal, literal_checks}

-- the width of the variable that a word stands for
abbrev pub word_width : Scope → Name → ℕ
word_width scope name = scope.widths.variables (site_of scope.variables name)

-- a word whose value is used
abbrev pub word_checks : Scope → ℕ → Name → Checks
word_checks scope at name =
    must (is_bound scope.variables name) (Unknown at)
    ∷ must (nat_lt 0 (word_width scope name)) (UnitUsed at) ∷ []

-- an operator on operands of two widths
abbrev pub operator_checks : ℕ → BinOp → ℕ → ℕ → Checks
operator_checks at written.Shl left right = []
operator_checks at written.Shr left right = []
operator_checks at written.Cat left right = must (nat_le (left + right) widest) (BadWidth at) ∷ []
operator_checks at operator left right = are_equal at left right ∷ []

-- `c ? a : b`, by the widths of the three
abbrev pub choice_checks : ℕ → ℕ → ℕ → ℕ → Checks
choice_checks at condition first second = are_equal at 1 condition ∷ are_equal at first second ∷ []

abbrev pub expr_checks : Scope → tree.Expr → Checks
expr_checks scope (tree.literal at width value) = literal_checks at width value
expr_checks scope (tree.variable at name) = word_checks scope at name
expr_checks scope (tree.shown at register) = must (is_among scope.registers register) (Unknown at) ∷ []
expr_checks scope (tree.inverse at operand) = expr_checks scope operand
expr_checks scope (tree.binary at operator first second) =
    expr_checks scope first ++ (expr_checks scope second
    ++ operator_checks at operator (width_of scope first) (width_of scope second))
expr_checks scope (tree.slice at name high low) =
    word_checks scope at name ++ (must (nat_le low high && nat_lt high (word_width scope name)) (BadWidth at) ∷ [])
expr_checks scope (tree.choice at condition first second) =
    expr_checks scope condition ++ (expr_checks scope first ++ (expr_checks scope second
    ++ choice_checks at (width_of scope condition) (width_of scope first) (width_of scope second)))
expr_checks scope (tree.unit at) = must false (UnitUsed at) ∷ []
