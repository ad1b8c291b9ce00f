-- What the checks of a thread say where none fails, as facts on each part of the tree: each expression has its
-- widths, each name is known and no earlier thread has taken it, and the body is tail-stepped. The lists of checks
-- are taken apart here once; the lemmas on bodies stand on these facts.
use Rattle.std.proofs.Common.{◌≡◌, ℕ, ◌+◌, ◌^◌, ◌==◌, nat_lt, nat_le, Bool, true, false, not, ◌&&◌, ◌||◌, List, [], ◌∷◌, Some, None, refl}
use Rattle.std.specs.Prelude.{⊤}
use Rattle.anvil_tree.specs.declared.expr.BinOp.{BinOp}
use Rattle.anvil_tree.specs.declared.expr.BinOp.TheVariants as written
use Rattle.anvil_tree.specs.Tree as tree
use Rattle.anvil_tree.specs.Tree.{Name, literal, variable, shown, inverse, binary, slice, choice, unit, single, follow, beside, cycle, set, send, receive, when, either, block, pure}
use Rattle.anvil_tree.specs.Few.{act_count, act_count_in}
use Rattle.core_term.specs.Process.{nth_port}
use Rattle.core_term.specs.Sized.{operands_fit}
use Rattle.core_term.specs.Widths.{term_width}
use Rattle.first_check.specs.Check.{AllHold}
use Rattle.first_check.proofs.Walks.{left_hold, right_hold}
use Rattle.core_file.specs.Scope.{Scope, is_among, number_among, is_bound, is_known_port, port_number, after}
use Rattle.core_file.specs.CoreTerm.{operator_of, core_term, core_act, width_of}
use Rattle.core_file.specs.Refused.{is_width, is_count}
use Rattle.core_file.specs.ExprChecks.{word_width, operator_checks, expr_checks}
use Rattle.core_file.specs.TermChecks.{Taken, is_side, pure_checks, term_checks, act_checks}
use Rattle.core_file.specs.TailChecks.{tail_checks, tail_checks_in}
use Rattle.core_file.specs.ThreadChecks.{taken_with, threads_checks}

-- Expressions.

abbrev pub WordHeld : Scope → Name → Type 0
WordHeld scope name = (is_bound scope.variables name ≡ true) × (nat_lt 0 (word_width scope name) ≡ true)

abbrev pub ExprHeld : Scope → tree.Expr → Type 0
ExprHeld scope (literal at width value) = (is_width width ≡ true) × (nat_lt value (2 ^ width) ≡ true)
ExprHeld scope (variable at name) = WordHeld scope name
ExprHeld scope (shown at register) = is_among scope.registers register ≡ true
ExprHeld scope (inverse at operand) = ExprHeld scope operand
ExprHeld scope (binary at operator first second) =
    ExprHeld scope first × ExprHeld scope second
    × (operands_fit (operator_of operator) (width_of scope first) (width_of scope second) ≡ true)
ExprHeld scope (slice at name high low) = WordHeld scope name × ((nat_le low high && nat_lt high (word_width scope name)) ≡ true)
ExprHeld scope (choice at condition first second) =
    ExprHeld scope condition × ExprHeld scope first × ExprHeld scope second
    × ((1 == width_of scope condition) ≡ true) × ((width_of scope first == width_of scope second) ≡ true)
ExprHeld scope (unit at) = ⊥

operands_held : (at : ℕ) (operator : BinOp) (left right : ℕ) → AllHold (operator_checks at operator left right)
    → operands_fit (operator_of operator) left right ≡ true
operands_held at written.Add left right hold = hold.0
operands_held at written.Sub left right hold = hold.0
operands_held at written.Mul left right hold = hold.0
operands_held at written.And left right hold = hold.0
operands_held at written.Or left right hold = hold.0
operands_held at written.Xor left right hold = hold.0
operands_held at written.Eq left right hold = hold.0
operands_held at written.Ne left right hold = hold.0
operands_held at written.Lt left right hold = hold.0
operands_held at written.Le left right hold = hold.0
operands_held at written.Gt left right hold = hold.0
operands_held at written.Ge left right hold = hold.0
operands_held at written.Shl left right hold = refl
operands_held at written.Shr left right hold = refl
operands_held at written.Cat left right hold = hold.0

pub expr_held : (scope : Scope) (expr : tree.Expr) → AllHold (expr_checks scope expr) → ExprHeld scope expr
expr_held scope (literal at width value) hold = (hold.0, hold.1.0)
expr_held scope (variable at name) hold = (hold.0, hold.1.0)
expr_held scope (shown at register) hold = hold.0
expr_held scope (inverse at operand) hold = expr_held scope operand hold
expr_held scope (binary at operator first second) hold =
    let behind = right_hold (expr_checks scope first) _ hold in (
      expr_held scope first (left_hold (expr_checks scope first) _ hold),
      expr_held scope second (left_hold (expr_checks scope second) _ behind),
      operands_held at operator (width_of scope first) (width_of scope second) (right_hold (expr_checks scope second) _ behind),
    )
expr_held scope (slice at name high low) hold = ((hold.0, hold.1.0), hold.1.1.0)
expr_held scope (choice at condition first second) hold =
    let sides = right_hold (expr_checks scope condition) _ hold in
    let behind = right_hold (expr_checks scope first) _ sides in
    let node = right_hold (expr_checks scope second) _ behind in (
      expr_held scope condition (left_hold (expr_checks scope condition) _ hold),
      expr_held scope first (left_hold (expr_checks scope first) _ sides),
      expr_held scope second (left_hold (expr_checks scope second) _ behind),
      node.0,
      node.1.0,
    )
expr_held scope (unit at) hold = absurd cc

-- Acts and terms.

abbrev pub PortHeld : Scope → Taken → Bool → Name → Name → Type 0
PortHeld scope taken received endpoint message =
    (is_among scope.endpoints endpoint ≡ true) × (is_known_port scope endpoint message ≡ true)
    × (is_side received (nth_port scope.ports (port_number scope endpoint message)).received ≡ true)
    × (not (is_among taken.endpoints endpoint) ≡ true)

abbrev pub PureHeld : Scope → tree.Expr → Type 0
PureHeld scope (variable at name) = is_bound scope.variables name ≡ true
PureHeld scope (unit at) = ⊤
PureHeld scope expr = ExprHeld scope expr

abbrev pub SidesHeld : ℕ → ℕ → Type 0
SidesHeld left right = ((left == 0) || ((right == 0) || (left == right))) ≡ true

abbrev mutual
  pub TermHeld : Scope → Taken → ℕ → tree.Term → Type 0
  TermHeld scope taken low (single act) = ActHeld scope taken low act
  TermHeld scope taken low (follow bound act rest) =
      ActHeld scope taken low act × TermHeld (after scope bound low (core_act scope low act)) taken (low + act_count_in act) rest
  TermHeld scope taken low (beside bound act rest) =
      ActHeld scope taken low act × TermHeld (after scope bound low (core_act scope low act)) taken (low + act_count_in act) rest

  pub ActHeld : Scope → Taken → ℕ → tree.Act → Type 0
  ActHeld scope taken low (cycle at count count_at) = is_count count ≡ true
  ActHeld scope taken low (set at register register_at value) =
      (is_among scope.registers register ≡ true) × (not (is_among taken.registers register) ≡ true) × ExprHeld scope value
      × ((scope.widths.registers (number_among scope.registers register) == width_of scope value) ≡ true)
  ActHeld scope taken low (send at endpoint endpoint_at message message_at value) =
      PortHeld scope taken false endpoint message × ExprHeld scope value
      × ((scope.widths.ports (port_number scope endpoint message) == width_of scope value) ≡ true)
  ActHeld scope taken low (receive at endpoint endpoint_at message message_at) = PortHeld scope taken true endpoint message
  ActHeld scope taken low (when at condition first) =
      ExprHeld scope condition × ((1 == width_of scope condition) ≡ true) × TermHeld scope taken (low + 1) first
  ActHeld scope taken low (either at condition first second) =
      ExprHeld scope condition × ((1 == width_of scope condition) ≡ true)
      × TermHeld scope taken (low + 1) first × TermHeld scope taken (low + (1 + act_count first)) second
      × SidesHeld (term_width scope.widths (core_term scope (low + 1) first)) (term_width scope.widths (core_term scope (low + (1 + act_count first)) second))
  ActHeld scope taken low (block at body) = TermHeld scope taken (low + 1) body
  ActHeld scope taken low (pure at expr) = PureHeld scope expr

pure_held : (scope : Scope) (expr : tree.Expr) → AllHold (pure_checks scope expr) → PureHeld scope expr
pure_held scope (variable at name) hold = hold.0
pure_held scope (unit at) hold = tt
pure_held scope (literal at width value) hold = expr_held scope (literal at width value) hold
pure_held scope (shown at register) hold = expr_held scope (shown at register) hold
pure_held scope (inverse at operand) hold = expr_held scope (inverse at operand) hold
pure_held scope (binary at operator first second) hold = expr_held scope (binary at operator first second) hold
pure_held scope (slice at name high low) hold = expr_held scope (slice at name high low) hold
pure_held scope (choice at condition first second) hold = expr_held scope (choice at condition first second) hold

mutual
  pub term_held : (scope : Scope) (taken : Taken) (low : ℕ) (term : tree.Term) → AllHold (term_checks scope taken low term)
      → TermHeld scope taken low term
  term_held scope taken low (single act) hold = act_held scope taken low act hold
  term_held scope taken low (follow bound act rest) hold = (
    act_held scope taken low act (left_hold (act_checks scope taken low act) _ hold),
    term_held (after scope bound low (core_act scope low act)) taken (low + act_count_in act) rest (right_hold (act_checks scope taken low act) _ hold),
  )
  term_held scope taken low (beside bound act rest) hold = (
    act_held scope taken low act (left_hold (act_checks scope taken low act) _ hold),
    term_held (after scope bound low (core_act scope low act)) taken (low + act_count_in act) rest (right_hold (act_checks scope taken low act) _ hold),
  )

  pub act_held : (scope : Scope) (taken : Taken) (low : ℕ) (act : tree.Act) → AllHold (act_checks scope taken low act)
      → ActHeld scope taken low act
  act_held scope taken low (cycle at count count_at) hold = hold.0
  act_held scope taken low (set at register register_at value) hold = (
    hold.0,
    hold.1.0,
    expr_held scope value (left_hold (expr_checks scope value) _ hold.1.1),
    (right_hold (expr_checks scope value) _ hold.1.1).0,
  )
  act_held scope taken low (send at endpoint endpoint_at message message_at value) hold =
      let behind = hold.1.1.1.1 in (
        (hold.0, hold.1.0, hold.1.1.0, hold.1.1.1.0),
        expr_held scope value (left_hold (expr_checks scope value) _ behind),
        (right_hold (expr_checks scope value) _ behind).0,
      )
  act_held scope taken low (receive at endpoint endpoint_at message message_at) hold =
      (hold.0, hold.1.0, hold.1.1.0, hold.1.1.1.0)
  act_held scope taken low (when at condition first) hold =
      let behind = right_hold (expr_checks scope condition) _ hold in (
        expr_held scope condition (left_hold (expr_checks scope condition) _ hold),
        behind.0,
        term_held scope taken (low + 1) first behind.1,
      )
  act_held scope taken low (either at condition first second) hold =
      let behind = right_hold (expr_checks scope condition) _ hold in
      let sides = right_hold (term_checks scope taken (low + 1) first) _ behind.1 in (
        expr_held scope condition (left_hold (expr_checks scope condition) _ hold),
        behind.0,
        term_held scope taken (low + 1) first (left_hold (term_checks scope taken (low + 1) first) _ behind.1),
        term_held scope taken (low + (1 + act_count first)) second (left_hold (term_checks scope taken (low + (1 + act_count first)) second) _ sides),
        (right_hold (term_checks scope taken (low + (1 + act_count first)) second) _ sides).0,
      )
  act_held scope taken low (block at body) hold = term_held scope taken (low + 1) body hold
  act_held scope taken low (pure at expr) hold = pure_held scope expr hold

-- Tails.

abbrev mutual
  pub TailHeld : tree.Term → Type 0
  TailHeld (single act) = TailHeldIn act
  TailHeld (follow bound act rest) = TailHeld rest
  TailHeld (beside None act rest) = TailHeldIn act × TailHeld rest
  TailHeld (beside (Some name) act rest) = ⊥

  pub TailHeldIn : tree.Act → Type 0
  TailHeldIn (cycle at count count_at) = ⊤
  TailHeldIn (set at register register_at value) = ⊤
  TailHeldIn (either at condition first second) = TailHeld first × TailHeld second
  TailHeldIn (block at body) = TailHeld body
  TailHeldIn act = ⊥

mutual
  pub tail_held : (term : tree.Term) → AllHold (tail_checks term) → TailHeld term
  tail_held (single act) hold = tail_held_in act hold
  tail_held (follow bound act rest) hold = tail_held rest hold
  tail_held (beside None act rest) hold = (
    tail_held_in act (left_hold (tail_checks_in act) _ hold),
    tail_held rest (right_hold (tail_checks_in act) _ hold),
  )
  tail_held (beside (Some name) act rest) hold = absurd cc

  pub tail_held_in : (act : tree.Act) → AllHold (tail_checks_in act) → TailHeldIn act
  tail_held_in (cycle at count count_at) hold = tt
  tail_held_in (set at register register_at value) hold = tt
  tail_held_in (either at condition first second) hold = (
    tail_held first (left_hold (tail_checks first) _ hold),
    tail_held second (right_hold (tail_checks first) _ hold),
  )
  tail_held_in (block at body) hold = tail_held body hold
  tail_held_in (send at endpoint endpoint_at message message_at value) hold = absurd cc
  tail_held_in (receive at endpoint endpoint_at message message_at) hold = absurd cc
  tail_held_in (when at condition first) hold = absurd cc
  tail_held_in (pure at expr) hold = absurd cc

-- Threads.

abbrev pub ThreadsHeld : Scope → Taken → List tree.Term → Type 0
ThreadsHeld scope taken [] = ⊤
ThreadsHeld scope taken (thread ∷ threads) = TermHeld scope taken 0 thread × TailHeld thread
    × ThreadsHeld scope (taken_with taken thread) threads

pub threads_held : (scope : Scope) (taken : Taken) (threads : List tree.Term) → AllHold (threads_checks scope taken threads)
    → ThreadsHeld scope taken threads
threads_held scope taken [] hold = tt
threads_held scope taken (thread ∷ threads) hold =
    let behind = right_hold (term_checks scope taken 0 thread) _ hold in (
      term_held scope taken 0 thread (left_hold (term_checks scope taken 0 thread) _ hold),
      tail_held thread (left_hold (tail_checks thread) _ behind),
      threads_held scope (taken_with taken thread) threads (right_hold (tail_checks thread) _ behind),
    )
