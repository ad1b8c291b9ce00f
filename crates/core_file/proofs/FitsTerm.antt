-- Where no check of a term fails, its core term fits the process: all widths agree, each port and register has a
-- number below its count, each act is on the right side of its port, and no expression has too many nodes. By
-- induction over the tree.
use Rattle.std.proofs.Common.{◌≡◌, ℕ, ◌+◌, ◌<◌, ◌≤◌, arith, refl, ap, subst, Bool, true, false, ◌&&◌, ◌||◌, ◌==◌, nat_lt, nat_le, length, Option}
use Rattle.std.proofs.lemmas.Bool.Decides.{nat_tests}
use Rattle.anvil_tree.specs.Tree as tree
use Rattle.anvil_tree.specs.Tree.{Name, literal, variable, shown, inverse, binary, slice, choice, unit, single, follow, beside, cycle, set, send, receive, when, either, block, pure}
use Rattle.anvil_tree.specs.Few.{most_nodes as most_tree_nodes, node_count, act_count, act_count_in, HasFewNodes, HasFewNodesIn}
use Rattle.core_term.specs.Limits.{most_nodes}
use Rattle.core_term.specs.Process.{Process, nth_port, nth_register, is_received}
use Rattle.core_term.specs.Term.{Act}
use Rattle.core_term.specs.Sized.{nodes, parts_fit, expr_fits, word_fits, term_fits, act_fits}
use Rattle.core_term.specs.Widths.{term_width}
use Rattle.core_file.specs.Scope.{Scope, number_among, port_number, after}
use Rattle.core_file.specs.CoreTerm.{core_expr, core_pure, core_term, core_act, width_of}
use Rattle.core_file.specs.TermChecks.{Taken, is_side}
use Rattle.core_file.proofs.Apart.{both_true, found}
use Rattle.core_file.proofs.Held.{ExprHeld, PortHeld, PureHeld, SidesHeld, TermHeld, ActHeld}
use Rattle.core_file.proofs.Sizes.{nodes_same}

-- the scope knows the ports and registers of the process
pub record Agrees (scope : Scope) (plain : Process) : Type 0 where
  pub ports : scope.ports ≡ plain.ports
  pub registers : length scope.registers ≡ length plain.registers
  pub register_widths : (r : ℕ) → scope.widths.registers r ≡ (nth_register plain.registers r).width
  pub port_widths : (m : ℕ) → scope.widths.ports m ≡ (nth_port plain.ports m).width

-- Tests.

or_true : (one other : Bool) → other ≡ true → (one || other) ≡ true
or_true true other also = refl
or_true false other also = also

same_width : (left right : ℕ) → (left == right) ≡ true → (right == left) ≡ true
same_width left right is = grind (arith, nat_tests)

module _ (plain : Process) where
  pub agrees_after : (scope : Scope) (bound : Option Name) (site : ℕ) (act : Act) → Agrees scope plain
      → Agrees (after scope bound site act) plain
  agrees_after scope bound site act agrees = record {
    ports = agrees.ports;
    registers = agrees.registers;
    register_widths = agrees.register_widths;
    port_widths = agrees.port_widths;
  }

  -- Expressions.

  pub parts_held : (scope : Scope) (expr : tree.Expr) → Agrees scope plain → ExprHeld scope expr
      → parts_fit (length plain.registers) scope.widths (core_expr scope expr) ≡ true
  parts_held scope (literal at width value) agrees held = both_true _ _ held.0 held.1
  parts_held scope (variable at name) agrees held = held.1
  parts_held scope (shown at register) agrees held =
      let below = found _ scope.registers held in
      let count = agrees.registers in
      let known : number_among scope.registers register < length plain.registers = omega arith in
      grind (arith, nat_tests)
  parts_held scope (inverse at operand) agrees held = parts_held scope operand agrees held
  parts_held scope (binary at operator first second) agrees held =
      both_true _ _ (parts_held scope first agrees held.0) (both_true _ _ (parts_held scope second agrees held.1) held.2)
  parts_held scope (slice at name high low) agrees held = held.1
  parts_held scope (choice at condition first second) agrees held =
      both_true _ _ (parts_held scope condition agrees held.0) (both_true _ _ (parts_held scope first agrees held.1)
      (both_true _ _ (parts_held scope second agrees held.2) (both_true _ _ (same_width 1 (width_of scope condition) held.3) held.4)))
  parts_held scope (unit at) agrees held = elim held [ ]

  few_nodes : (scope : Scope) (expr : tree.Expr) → node_count expr ≤ most_tree_nodes
      → nat_le (nodes (core_expr scope expr)) most_nodes ≡ true
  few_nodes scope expr few = rw (nodes_same scope expr) (grind (arith, nat_tests))

  expr_held_fits : (scope : Scope) (expr : tree.Expr) (width : ℕ) → Agrees scope plain → ExprHeld scope expr
      → node_count expr ≤ most_tree_nodes → (width == width_of scope expr) ≡ true
      → expr_fits plain scope.widths width (core_expr scope expr) ≡ true
  expr_held_fits scope expr width agrees held few same =
      both_true _ _ (parts_held scope expr agrees held) (both_true _ _ (same_width width (width_of scope expr) same) (few_nodes scope expr few))

  -- Acts and terms.

  pure_fits : (scope : Scope) (low : ℕ) (expr : tree.Expr) → Agrees scope plain → ExprHeld scope expr
      → node_count expr ≤ most_tree_nodes
      → expr_fits plain scope.widths (width_of scope expr) (core_expr scope expr) ≡ true
  pure_fits scope low expr agrees held few =
      let same : (width_of scope expr == width_of scope expr) ≡ true = grind (arith, nat_tests) in
      expr_held_fits scope expr (width_of scope expr) agrees held few same

  pure_held_fits : (scope : Scope) (low : ℕ) (expr : tree.Expr) → Agrees scope plain → PureHeld scope expr
      → node_count expr ≤ most_tree_nodes
      → act_fits plain scope.widths (core_pure scope low expr) ≡ true
  pure_held_fits scope low (variable at name) agrees held few = refl
  pure_held_fits scope low (unit at) agrees held few = refl
  pure_held_fits scope low (literal at width value) agrees held few = pure_fits scope low (literal at width value) agrees held few
  pure_held_fits scope low (shown at register) agrees held few = pure_fits scope low (shown at register) agrees held few
  pure_held_fits scope low (inverse at operand) agrees held few = pure_fits scope low (inverse at operand) agrees held few
  pure_held_fits scope low (binary at operator first second) agrees held few =
      pure_fits scope low (binary at operator first second) agrees held few
  pure_held_fits scope low (slice at name high index) agrees held few =
      pure_fits scope low (slice at name high index) agrees held few
  pure_held_fits scope low (choice at condition first second) agrees held few =
      pure_fits scope low (choice at condition first second) agrees held few

  port_below : (scope : Scope) (taken : Taken) (received : Bool) (endpoint message : Name) → Agrees scope plain
      → PortHeld scope taken received endpoint message
      → nat_lt (port_number scope endpoint message) (length plain.ports) ≡ true
  port_below scope taken received endpoint message agrees held =
      let below = found _ scope.ports held.1 in
      let count : length scope.ports ≡ length plain.ports = ap length agrees.ports in
      let known : port_number scope endpoint message < length plain.ports = omega arith in
      grind (arith, nat_tests)

  port_side : (scope : Scope) (taken : Taken) (received : Bool) (endpoint message : Name) → Agrees scope plain
      → PortHeld scope taken received endpoint message
      → is_side received (is_received plain (port_number scope endpoint message)) ≡ true
  port_side scope taken received endpoint message agrees held =
      subst (λ ports. is_side received (nth_port ports (port_number scope endpoint message)).received ≡ true) agrees.ports held.2

  sides_fit_by : (left right : ℕ) (some also : Bool) → nat_lt 0 left ≡ some → nat_lt 0 right ≡ also → SidesHeld left right
      → word_fits (some && also) left right ≡ true
  sides_fit_by left right true true some also sides =
      let left_some : (left == 0) ≡ false = grind (arith, nat_tests) in
      let right_some : (right == 0) ≡ false = grind (arith, nat_tests) in
      let same : (left == right) ≡ true = rw (left_some, right_some) at sides in
      both_true _ _ some same
  sides_fit_by left right true false some also sides =
      let right_none : (right == 0) ≡ true = grind (arith, nat_tests) in
      or_true (left == 0) (right == 0) right_none
  sides_fit_by left right false also some is sides =
      let left_none : (left == 0) ≡ true = grind (arith, nat_tests) in
      rw left_none refl

  -- the sides of an `if` that has a value where both have one
  pub sides_fit : (left right : ℕ) → SidesHeld left right → word_fits (nat_lt 0 left && nat_lt 0 right) left right ≡ true
  sides_fit left right sides = sides_fit_by left right (nat_lt 0 left) (nat_lt 0 right) refl refl sides

  mutual
    pub term_held_fits : (scope : Scope) (taken : Taken) (low : ℕ) (term : tree.Term) → Agrees scope plain
        → TermHeld scope taken low term → HasFewNodes term
        → term_fits plain scope.widths (core_term scope low term) ≡ true
    term_held_fits scope taken low (single act) agrees held few = act_held_fits scope taken low act agrees held few
    term_held_fits scope taken low (follow bound act rest) agrees held few =
        both_true _ _ (act_held_fits scope taken low act agrees held.0 few.0)
        (term_held_fits (after scope bound low (core_act scope low act)) taken (low + act_count_in act) rest (agrees_after scope bound low (core_act scope low act) agrees) held.1 few.1)
    term_held_fits scope taken low (beside bound act rest) agrees held few =
        both_true _ _ (act_held_fits scope taken low act agrees held.0 few.0)
        (term_held_fits (after scope bound low (core_act scope low act)) taken (low + act_count_in act) rest (agrees_after scope bound low (core_act scope low act) agrees) held.1 few.1)

    act_held_fits : (scope : Scope) (taken : Taken) (low : ℕ) (act : tree.Act) → Agrees scope plain
        → ActHeld scope taken low act → HasFewNodesIn act
        → act_fits plain scope.widths (core_act scope low act) ≡ true
    act_held_fits scope taken low (cycle at count count_at) agrees held few = held
    act_held_fits scope taken low (set at register register_at value) agrees held few =
        let number = number_among scope.registers register in
        let below = found _ scope.registers held.0 in
        let count = agrees.registers in
        let within : number < length plain.registers = omega arith in
        let known : nat_lt number (length plain.registers) ≡ true = grind (arith, nat_tests) in
        let same = subst (λ width. (width == width_of scope value) ≡ true) (agrees.register_widths number) held.3 in
        both_true _ _ known (expr_held_fits scope value (nth_register plain.registers number).width agrees held.2 few same)
    act_held_fits scope taken low (send at endpoint endpoint_at message message_at value) agrees held few =
        let number = port_number scope endpoint message in
        let same = subst (λ width. (width == width_of scope value) ≡ true) (agrees.port_widths number) held.2 in
        both_true _ _ (port_below scope taken false endpoint message agrees held.0)
        (both_true _ _ (port_side scope taken false endpoint message agrees held.0) (expr_held_fits scope value (nth_port plain.ports number).width agrees held.1 few same))
    act_held_fits scope taken low (receive at endpoint endpoint_at message message_at) agrees held few =
        both_true _ _ (port_below scope taken true endpoint message agrees held) (port_side scope taken true endpoint message agrees held)
    act_held_fits scope taken low (when at condition first) agrees held few =
        both_true _ _ (expr_held_fits scope condition 1 agrees held.0 few.0 held.1) (term_held_fits scope taken (low + 1) first agrees held.2 few.1)
    act_held_fits scope taken low (either at condition first second) agrees held few =
        both_true _ _ (expr_held_fits scope condition 1 agrees held.0 few.0 held.1)
        (both_true _ _ (term_held_fits scope taken (low + 1) first agrees held.2 few.1)
        (both_true _ _ (term_held_fits scope taken (low + (1 + act_count first)) second agrees held.3 few.2)
        (sides_fit (term_width scope.widths (core_term scope (low + 1) first)) (term_width scope.widths (core_term scope (low + (1 + act_count first)) second)) held.4)))
    act_held_fits scope taken low (block at body) agrees held few = term_held_fits scope taken (low + 1) body agrees held few
    act_held_fits scope taken low (pure at expr) agrees held few = pure_held_fits scope low expr agrees held few
