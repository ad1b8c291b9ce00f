-- A term has as many acts once names stand for numbers as in the tree, its first act has the first site, and an
-- expression has as many nodes. By induction over the tree.
use Rattle.std.proofs.Common.{◌≡◌, ℕ, ◌+◌, ◌<◌, arith, refl}
use Rattle.anvil_tree.specs.Tree as tree
use Rattle.anvil_tree.specs.Tree.{literal, variable, shown, inverse, binary, slice, choice, unit, single, follow, beside, cycle, set, send, receive, when, either, block, pure}
use Rattle.anvil_tree.specs.Few.{node_count, act_count, act_count_in}
use Rattle.core_term.specs.Term.{site}
use Rattle.core_term.specs.Numbering.{size, act_size}
use Rattle.core_term.specs.Sized.{nodes}
use Rattle.core_file.specs.Scope.{Scope, after}
use Rattle.core_file.specs.CoreTerm.{core_expr, core_pure, core_term, core_act}

pub nodes_same : (scope : Scope) (expr : tree.Expr) → nodes (core_expr scope expr) ≡ node_count expr
nodes_same scope (literal at width value) = refl
nodes_same scope (variable at name) = refl
nodes_same scope (shown at register) = refl
nodes_same scope (inverse at operand) = rw (nodes_same scope operand) refl
nodes_same scope (binary at operator first second) = rw (nodes_same scope first, nodes_same scope second) refl
nodes_same scope (slice at name high low) = refl
nodes_same scope (choice at condition first second) = rw (
  nodes_same scope condition,
  nodes_same scope first,
  nodes_same scope second,
) refl
nodes_same scope (unit at) = refl

pure_size : (scope : Scope) (low : ℕ) (expr : tree.Expr) → act_size (core_pure scope low expr) ≡ 1
pure_size scope low (literal at width value) = refl
pure_size scope low (variable at name) = refl
pure_size scope low (shown at register) = refl
pure_size scope low (inverse at operand) = refl
pure_size scope low (binary at operator first second) = refl
pure_size scope low (slice at name high index) = refl
pure_size scope low (choice at condition first second) = refl
pure_size scope low (unit at) = refl

mutual
  pub sizes_same : (scope : Scope) (low : ℕ) (term : tree.Term) → size (core_term scope low term) ≡ act_count term
  sizes_same scope low (single act) = sizes_same_in scope low act
  sizes_same scope low (follow bound act rest) = rw (
    sizes_same_in scope low act,
    sizes_same (after scope bound low (core_act scope low act)) (low + act_count_in act) rest,
  ) refl
  sizes_same scope low (beside bound act rest) = rw (
    sizes_same_in scope low act,
    sizes_same (after scope bound low (core_act scope low act)) (low + act_count_in act) rest,
  ) refl

  pub sizes_same_in : (scope : Scope) (low : ℕ) (act : tree.Act) → act_size (core_act scope low act) ≡ act_count_in act
  sizes_same_in scope low (cycle at count count_at) = refl
  sizes_same_in scope low (set at register register_at value) = refl
  sizes_same_in scope low (send at endpoint endpoint_at message message_at value) = refl
  sizes_same_in scope low (receive at endpoint endpoint_at message message_at) = refl
  sizes_same_in scope low (when at condition first) = rw (sizes_same scope (low + 1) first) refl
  sizes_same_in scope low (either at condition first second) =
      rw (sizes_same scope (low + 1) first, sizes_same scope (low + (1 + act_count first)) second) refl
  sizes_same_in scope low (block at body) = rw (sizes_same scope (low + 1) body) refl
  sizes_same_in scope low (pure at expr) = pure_size scope low expr

pure_site : (scope : Scope) (low : ℕ) (expr : tree.Expr) → site (core_pure scope low expr) ≡ low
pure_site scope low (literal at width value) = refl
pure_site scope low (variable at name) = refl
pure_site scope low (shown at register) = refl
pure_site scope low (inverse at operand) = refl
pure_site scope low (binary at operator first second) = refl
pure_site scope low (slice at name high index) = refl
pure_site scope low (choice at condition first second) = refl
pure_site scope low (unit at) = refl

pub first_site : (scope : Scope) (low : ℕ) (act : tree.Act) → site (core_act scope low act) ≡ low
first_site scope low (cycle at count count_at) = refl
first_site scope low (set at register register_at value) = refl
first_site scope low (send at endpoint endpoint_at message message_at value) = refl
first_site scope low (receive at endpoint endpoint_at message message_at) = refl
first_site scope low (when at condition first) = refl
first_site scope low (either at condition first second) = refl
first_site scope low (block at body) = refl
first_site scope low (pure at expr) = pure_site scope low expr

pub some_act : (act : tree.Act) → 0 < act_count_in act
some_act (cycle at count count_at) = omega arith
some_act (set at register register_at value) = omega arith
some_act (send at endpoint endpoint_at message message_at value) = omega arith
some_act (receive at endpoint endpoint_at message message_at) = omega arith
some_act (when at condition first) = omega arith
some_act (either at condition first second) = omega arith
some_act (block at body) = omega arith
some_act (pure at expr) = omega arith
