-- The place of each part of a tree.
use Rattle.std.specs.Prelude.{ℕ}
use Rattle.anvil_tree.specs.Tree.{Expr, literal, variable, shown, inverse, binary, slice, choice, unit, Term, single, follow, beside, Act, cycle, set, send, receive, when, either, block, pure, Item, class, process}

-- of its root node
abbrev pub place_of_expr : Expr → ℕ
place_of_expr (literal at width value) = at
place_of_expr (variable at name) = at
place_of_expr (shown at register) = at
place_of_expr (inverse at operand) = at
place_of_expr (binary at operator first second) = at
place_of_expr (slice at name high low) = at
place_of_expr (choice at condition first second) = at
place_of_expr (unit at) = at

abbrev pub place_of_act : Act → ℕ
place_of_act (cycle at count count_at) = at
place_of_act (set at register register_at value) = at
place_of_act (send at endpoint endpoint_at message message_at value) = at
place_of_act (receive at endpoint endpoint_at message message_at) = at
place_of_act (when at condition first) = at
place_of_act (either at condition first second) = at
place_of_act (block at body) = at
place_of_act (pure at expr) = at

-- of its first act
abbrev pub place_of_term : Term → ℕ
place_of_term (single act) = place_of_act act
place_of_term (follow bound act term) = place_of_act act
place_of_term (beside bound act term) = place_of_act act

-- of its name
abbrev pub place_of_item : Item → ℕ
place_of_item (class c) = c.at
place_of_item (process p) = p.at
