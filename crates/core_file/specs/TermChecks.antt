-- The checks of the acts of a thread, in the order of the text. Earlier threads have taken the registers that they
-- set and the endpoints that they name.
use Rattle.std.specs.Prelude.{ℕ, ◌+◌, ◌==◌, Bool, true, false, not, ◌||◌, List, [], ◌∷◌, ◌++◌}
use Rattle.anvil_tree.specs.Tree as tree
use Rattle.anvil_tree.specs.Tree.{Name}
use Rattle.anvil_tree.specs.Few.{act_count, act_count_in}
use Rattle.core_term.specs.Process.{nth_port}
use Rattle.core_term.specs.Widths.{term_width}
use Rattle.first_check.specs.Check.{must}
use Rattle.core_file.specs.declared.error.NameErr.TheVariants.{Unknown, BadCount, WidthDiffers, WrongSide, EndpointShared, RegisterShared}
use Rattle.core_file.specs.Scope.{Scope, is_among, number_among, is_bound, is_known_port, port_number, after}
use Rattle.core_file.specs.CoreTerm.{core_act, core_term, width_of}
use Rattle.core_file.specs.Refused.{Checks, is_count, are_equal}
use Rattle.core_file.specs.ExprChecks.{expr_checks}

-- the registers that earlier threads set, and the endpoints that they name
pub record Taken : Type 0 where
  pub registers : List Name
  pub endpoints : List Name

-- whether a port is received, as wanted
abbrev pub is_side : Bool → Bool → Bool
is_side true received = received
is_side false received = not received

-- a `send` or `recv`, up to its expression
abbrev pub port_checks : Scope → Taken → Bool → ℕ → Name → ℕ → Name → ℕ → Checks
port_checks scope taken received at endpoint endpoint_at message message_at =
    must (is_among scope.endpoints endpoint) (Unknown endpoint_at)
    ∷ must (is_known_port scope endpoint message) (Unknown message_at)
    ∷ must (is_side received (nth_port scope.ports (port_number scope endpoint message)).received) (WrongSide at)
    ∷ must (not (is_among taken.endpoints endpoint)) (EndpointShared at) ∷ []

-- an act that is an expression: a word alone and `()` need no value
abbrev pub pure_checks : Scope → tree.Expr → Checks
pure_checks scope (tree.variable at name) = must (is_bound scope.variables name) (Unknown at) ∷ []
pure_checks scope (tree.unit at) = []
pure_checks scope expr = expr_checks scope expr

-- the sides of an `if` have one width, or one of them has none
abbrev pub side_checks : ℕ → ℕ → ℕ → Checks
side_checks at left right = must ((left == 0) || ((right == 0) || (left == right))) (WidthDiffers at left right) ∷ []

-- a term and an act, with sites from `low` on
abbrev mutual
  pub term_checks : Scope → Taken → ℕ → tree.Term → Checks
  term_checks scope taken low (tree.single act) = act_checks scope taken low act
  term_checks scope taken low (tree.follow bound act rest) =
      act_checks scope taken low act
      ++ term_checks (after scope bound low (core_act scope low act)) taken (low + act_count_in act) rest
  term_checks scope taken low (tree.beside bound act rest) =
      act_checks scope taken low act
      ++ term_checks (after scope bound low (core_act scope low act)) taken (low + act_count_in act) rest

  pub act_checks : Scope → Taken → ℕ → tree.Act → Checks
  act_checks scope taken low (tree.cycle at count count_at) = must (is_count count) (BadCount count_at) ∷ []
  act_checks scope taken low (tree.set at register register_at value) =
      must (is_among scope.registers register) (Unknown register_at)
      ∷ must (not (is_among taken.registers register)) (RegisterShared at)
      ∷ (expr_checks scope value
      ++ (are_equal at (scope.widths.registers (number_among scope.registers register)) (width_of scope value) ∷ []))
  act_checks scope taken low (tree.send at endpoint endpoint_at message message_at value) =
      port_checks scope taken false at endpoint endpoint_at message message_at
      ++ (expr_checks scope value
      ++ (are_equal at (scope.widths.ports (port_number scope endpoint message)) (width_of scope value) ∷ []))
  act_checks scope taken low (tree.receive at endpoint endpoint_at message message_at) =
      port_checks scope taken true at endpoint endpoint_at message message_at
  act_checks scope taken low (tree.when at condition first) =
      expr_checks scope condition
      ++ (are_equal at 1 (width_of scope condition) ∷ term_checks scope taken (low + 1) first)
  act_checks scope taken low (tree.either at condition first second) =
      expr_checks scope condition
      ++ (are_equal at 1 (width_of scope condition)
      ∷ (term_checks scope taken (low + 1) first
      ++ (term_checks scope taken (low + (1 + act_count first)) second
      ++ side_checks at
      (term_width scope.widths (core_term scope (low + 1) first))
      (term_width scope.widths (core_term scope (low + (1 + act_count first)) second)))))
  act_checks scope taken low (tree.block at body) = term_checks scope taken (low + 1) body
  act_checks scope taken low (tree.pure at expr) = pure_checks scope expr
