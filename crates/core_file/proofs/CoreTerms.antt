-- The core term of a term in which no check fails is what its names, words and sites ask for, and nothing else is.
--
-- One way by induction over the tree, with what the checks say. The other way by induction too: a term that the
-- relation admits, and that is numbered from the same site on, has the sites, the names and the words of the core
-- term. The rest of a chain is read in the scope that its act leaves, which is the same act by then.
use Rattle.std.proofs.Common.{◌≡◌, ◌∙◌, ℕ, ◌+◌, refl, sym, ap, subst, List, ◌∷◌, Option, bytes_eq}
use Rattle.anvil_tree.specs.Tree as tree
use Rattle.anvil_tree.specs.Tree.{Name, literal, variable, shown, inverse, binary, slice, choice, unit, single, follow, beside, cycle, set, send, receive, when, either, block, pure}
use Rattle.anvil_tree.specs.Few.{act_count, act_count_in}
use Rattle.core_term.specs.Numbering.{size, act_size, Numbered, NumberedAct}
use Rattle.core_term.specs.Sized.{is_same_port}
use Rattle.core_term.specs.Term as term
use Rattle.core_term.specs.Term.{Expr, Term, Act, site}
use Rattle.core_term.specs.View.{not_of_width}
use Rattle.core_file.specs.Scope.{Scope, site_of, number_among, port_number, after}
use Rattle.core_file.specs.CoreTerm.{core_expr, core_pure, core_term, core_act}
use Rattle.core_file.specs.IsCoreFile.{IsExprOf, IsPureOf, IsTermOf, IsActOf}
use Rattle.core_file.specs.TermChecks.{Taken}
use Rattle.core_file.proofs.Apart.{AllApart}
use Rattle.core_file.proofs.Held.{ExprHeld, PureHeld, TermHeld, ActHeld}
use Rattle.core_file.proofs.NamesStand.{bound_innermost, innermost_one, register_stands, register_one, port_stands, port_one}
use Rattle.core_file.proofs.Sizes.{sizes_same, sizes_same_in, first_site}

-- Where no check fails, the core term stands for the term.

pub expr_stands : (scope : Scope) (expr : tree.Expr) → ExprHeld scope expr → IsExprOf scope expr (core_expr scope expr)
expr_stands scope (literal at width value) held = refl
expr_stands scope (variable at name) held = (site_of scope.variables name, bound_innermost scope.variables name held.0, refl)
expr_stands scope (shown at register) held = (
  number_among scope.registers register,
  register_stands scope.registers register held,
  refl,
)
expr_stands scope (inverse at operand) held = (core_expr scope operand, expr_stands scope operand held, refl)
expr_stands scope (binary at operator first second) held =
    (core_expr scope first, core_expr scope second, expr_stands scope first held.0, expr_stands scope second held.1, refl)
expr_stands scope (slice at name high low) held = (
  site_of scope.variables name,
  bound_innermost scope.variables name held.0.0,
  refl,
)
expr_stands scope (choice at condition first second) held = (
  core_expr scope condition,
  core_expr scope first,
  core_expr scope second,
  expr_stands scope condition held.0,
  expr_stands scope first held.1,
  expr_stands scope second held.2,
  refl,
)
expr_stands scope (unit at) held = elim held [ ]

pure_stands : (scope : Scope) (low : ℕ) (expr : tree.Expr) → PureHeld scope expr → IsPureOf scope expr (core_pure scope low expr)
pure_stands scope low (variable at name) held = (
  low,
  site_of scope.variables name,
  bound_innermost scope.variables name held,
  refl,
)
pure_stands scope low (unit at) held = (low, refl)
pure_stands scope low (literal at width value) held = (
  low,
  core_expr scope (literal at width value),
  expr_stands scope (literal at width value) held,
  refl,
)
pure_stands scope low (shown at register) held = (
  low,
  core_expr scope (shown at register),
  expr_stands scope (shown at register) held,
  refl,
)
pure_stands scope low (inverse at operand) held = (
  low,
  core_expr scope (inverse at operand),
  expr_stands scope (inverse at operand) held,
  refl,
)
pure_stands scope low (binary at operator first second) held =
    (low, core_expr scope (binary at operator first second), expr_stands scope (binary at operator first second) held, refl)
pure_stands scope low (slice at name high index) held = (
  low,
  core_expr scope (slice at name high index),
  expr_stands scope (slice at name high index) held,
  refl,
)
pure_stands scope low (choice at condition first second) held =
    (low, core_expr scope (choice at condition first second), expr_stands scope (choice at condition first second) held, refl)

mutual
  pub term_stands : (scope : Scope) (taken : Taken) (low : ℕ) (written : tree.Term) → TermHeld scope taken low written
      → IsTermOf scope written (core_term scope low written)
  term_stands scope taken low (single act) held = (core_act scope low act, act_stands scope taken low act held, refl)
  term_stands scope taken low (follow bound act rest) held =
      let made = core_act scope low act in
      let there = core_term (after scope bound low made) (low + act_count_in act) rest in (
        made,
        there,
        act_stands scope taken low act held.0,
        subst (λ s. IsTermOf (after scope bound s made) rest there) (sym (first_site scope low act)) (term_stands (after scope bound low made) taken (low + act_count_in act) rest held.1),
        refl,
      )
  term_stands scope taken low (beside bound act rest) held =
      let made = core_act scope low act in
      let there = core_term (after scope bound low made) (low + act_count_in act) rest in (
        made,
        there,
        act_stands scope taken low act held.0,
        subst (λ s. IsTermOf (after scope bound s made) rest there) (sym (first_site scope low act)) (term_stands (after scope bound low made) taken (low + act_count_in act) rest held.1),
        refl,
      )

  act_stands : (scope : Scope) (taken : Taken) (low : ℕ) (written : tree.Act) → ActHeld scope taken low written
      → IsActOf scope written (core_act scope low written)
  act_stands scope taken low (cycle at count count_at) held = (low, refl)
  act_stands scope taken low (set at register register_at value) held = (
    low,
    number_among scope.registers register,
    core_expr scope value,
    register_stands scope.registers register held.0,
    expr_stands scope value held.2,
    refl,
  )
  act_stands scope taken low (send at endpoint endpoint_at message message_at value) held = (
    low,
    port_number scope endpoint message,
    core_expr scope value,
    port_stands scope.ports endpoint message held.0.1,
    expr_stands scope value held.1,
    refl,
  )
  act_stands scope taken low (receive at endpoint endpoint_at message message_at) held =
      (low, port_number scope endpoint message, port_stands scope.ports endpoint message held.1, refl)
  act_stands scope taken low (when at condition first) held = (
    low,
    core_expr scope condition,
    core_term scope (low + 1) first,
    expr_stands scope condition held.0,
    term_stands scope taken (low + 1) first held.2,
    refl,
  )
  act_stands scope taken low (either at condition first second) held =
      let behind = low + (1 + act_count first) in (
        low,
        core_expr scope condition,
        core_term scope (low + 1) first,
        core_term scope behind second,
        expr_stands scope condition held.0,
        term_stands scope taken (low + 1) first held.2,
        term_stands scope taken behind second held.3,
        refl,
      )
  act_stands scope taken low (block at body) held = (
    low,
    core_term scope (low + 1) body,
    term_stands scope taken (low + 1) body held,
    refl,
  )
  act_stands scope taken low (pure at expr) held = pure_stands scope low expr held

-- Nothing else stands for it.

-- no register and no port of the scope stands twice
pub record IsOnce (scope : Scope) : Type 0 where
  pub registers : AllApart bytes_eq scope.registers
  pub ports : AllApart is_same_port scope.ports

once_after : (scope : Scope) (bound : Option Name) (s : ℕ) (act : Act) → IsOnce scope → IsOnce (after scope bound s act)
once_after scope bound s act once = record { registers = once.registers; ports = once.ports }

pub expr_one : (scope : Scope) (written : tree.Expr) (expr : Expr) → IsOnce scope → IsExprOf scope written expr
    → expr ≡ core_expr scope written
expr_one scope (literal at width value) expr once is = is
expr_one scope (variable at name) expr once (y, innermost, is) = is ∙ ap term.Var (innermost_one scope.variables name y innermost)
expr_one scope (shown at register) expr once (r, place, is) = is
    ∙ ap term.Reg (register_one scope.registers once.registers r register place)
expr_one scope (inverse at operand) expr once (e, stands, is) = is
    ∙ ap (not_of_width scope.widths) (expr_one scope operand e once stands)
expr_one scope (binary at operator first second) expr once (a, b, stands, also, is) =
    is ∙ rw (expr_one scope first a once stands, expr_one scope second b once also) refl
expr_one scope (slice at name high low) expr once (y, innermost, is) = is
    ∙ ap (λ x. term.Slice x high low) (innermost_one scope.variables name y innermost)
expr_one scope (choice at condition first second) expr once (c, a, b, chooses, stands, also, is) =
    is ∙ rw (expr_one scope condition c once chooses, expr_one scope first a once stands, expr_one scope second b once also) refl
expr_one scope (unit at) expr once is = elim is [ ]

pure_value : (scope : Scope) (low : ℕ) (acts : List Act) (written : tree.Expr) (act : Act) → IsOnce scope
    → (s : ℕ) (e : Expr) → IsExprOf scope written e → act ≡ term.Pure s e
    → NumberedAct acts low act → act ≡ term.Pure low (core_expr scope written)
pure_value scope low acts written act once s e stands is numbered =
    let sited = subst (NumberedAct acts low) is numbered in
    is ∙ rw (sited.0, expr_one scope written e once stands) refl

-- the rest of a chain stands in the scope that its act leaves
in_rest : (scope : Scope) (low : ℕ) (bound : Option Name) (act : tree.Act) (rest : tree.Term) (a : Act) (t : Term)
    → a ≡ core_act scope low act
    → IsTermOf (after scope bound (site a) a) rest t → IsTermOf (after scope bound low (core_act scope low act)) rest t
in_rest scope low bound act rest a t same there =
    subst (λ s. IsTermOf (after scope bound s (core_act scope low act)) rest t) (first_site scope low act)
    (subst (λ x. IsTermOf (after scope bound (site x) x) rest t) same there)

pure_one : (scope : Scope) (low : ℕ) (acts : List Act) (written : tree.Expr) (act : Act) → IsOnce scope
    → IsPureOf scope written act → NumberedAct acts low act → act ≡ core_pure scope low written
pure_one scope low acts (variable at name) act once (s, y, innermost, is) numbered =
    let sited = subst (NumberedAct acts low) is numbered in
    is ∙ rw (sited.0, innermost_one scope.variables name y innermost) refl
pure_one scope low acts (unit at) act once (s, is) numbered = let sited = subst (NumberedAct acts low) is numbered in is
    ∙ ap term.Nothing sited
pure_one scope low acts (literal at width value) act once (s, e, stands, is) numbered =
    pure_value scope low acts (literal at width value) act once s e stands is numbered
pure_one scope low acts (shown at register) act once (s, e, stands, is) numbered =
    pure_value scope low acts (shown at register) act once s e stands is numbered
pure_one scope low acts (inverse at operand) act once (s, e, stands, is) numbered =
    pure_value scope low acts (inverse at operand) act once s e stands is numbered
pure_one scope low acts (binary at operator first second) act once (s, e, stands, is) numbered =
    pure_value scope low acts (binary at operator first second) act once s e stands is numbered
pure_one scope low acts (slice at name high index) act once (s, e, stands, is) numbered =
    pure_value scope low acts (slice at name high index) act once s e stands is numbered
pure_one scope low acts (choice at condition first second) act once (s, e, stands, is) numbered =
    pure_value scope low acts (choice at condition first second) act once s e stands is numbered

mutual
  pub term_one : (scope : Scope) (low : ℕ) (acts : List Act) (written : tree.Term) (core : Term) → IsOnce scope
      → IsTermOf scope written core → Numbered acts low core
      → core ≡ core_term scope low written
  term_one scope low acts (single act) core once (a, stands, is) numbered =
      is ∙ ap term.One (act_one scope low acts act a once stands (subst (Numbered acts low) is numbered))
  term_one scope low acts (follow bound act rest) core once (a, t, stands, there, is) numbered =
      let made = core_act scope low act in
      let sited = subst (Numbered acts low) is numbered in
      let same : a ≡ made = act_one scope low acts act a once stands sited.0 in
      let counted : act_size a ≡ act_count_in act = ap act_size same ∙ sizes_same_in scope low act in
      let rest_same =
      term_one (after scope bound low made) (low + act_count_in act) (a ∷ acts) rest t (once_after scope bound low made once)
      (in_rest scope low bound act rest a t same there) (subst (λ n. Numbered (a ∷ acts) (low + n) t) counted sited.1) in
      is ∙ ap (λ x. term.Then x t) same ∙ ap (term.Then made) rest_same
  term_one scope low acts (beside bound act rest) core once (a, t, stands, there, is) numbered =
      let made = core_act scope low act in
      let sited = subst (Numbered acts low) is numbered in
      let same : a ≡ made = act_one scope low acts act a once stands sited.0 in
      let counted : act_size a ≡ act_count_in act = ap act_size same ∙ sizes_same_in scope low act in
      let rest_same =
      term_one (after scope bound low made) (low + act_count_in act) (a ∷ acts) rest t (once_after scope bound low made once)
      (in_rest scope low bound act rest a t same there) (subst (λ n. Numbered (a ∷ acts) (low + n) t) counted sited.1) in
      is ∙ ap (λ x. term.Both x t) same ∙ ap (term.Both made) rest_same

  act_one : (scope : Scope) (low : ℕ) (acts : List Act) (written : tree.Act) (act : Act) → IsOnce scope
      → IsActOf scope written act → NumberedAct acts low act
      → act ≡ core_act scope low written
  act_one scope low acts (cycle at count count_at) act once (s, is) numbered =
      let sited = subst (NumberedAct acts low) is numbered in
      is ∙ ap (λ x. term.Cycle x count) sited
  act_one scope low acts (set at register register_at value) act once (s, r, e, place, stands, is) numbered =
      let sited = subst (NumberedAct acts low) is numbered in
      is ∙ rw (sited.0, register_one scope.registers once.registers r register place, expr_one scope value e once stands) refl
  act_one scope low acts (send at endpoint endpoint_at message message_at value) act once (s, m, e, place, stands, is) numbered =
      let sited = subst (NumberedAct acts low) is numbered in
      is ∙ rw (sited.0, port_one scope.ports once.ports endpoint message m place, expr_one scope value e once stands) refl
  act_one scope low acts (receive at endpoint endpoint_at message message_at) act once (s, m, place, is) numbered =
      let sited = subst (NumberedAct acts low) is numbered in
      is ∙ rw (sited, port_one scope.ports once.ports endpoint message m place) refl
  act_one scope low acts (when at condition first) act once (s, e, t, stands, side, is) numbered =
      let sited = subst (NumberedAct acts low) is numbered in
      is ∙ rw (sited.0, expr_one scope condition e once stands, term_one scope (low + 1) acts first t once side sited.1) refl
  act_one scope low acts (either at condition first second) act once (s, e, t, u, stands, side, other, is) numbered =
      let sited = subst (NumberedAct acts low) is numbered in
      let one = term_one scope (low + 1) acts first t once side sited.1 in
      let counted : size t ≡ act_count first = ap size one ∙ sizes_same scope (low + 1) first in
      let two = term_one scope (low + (1 + act_count first)) acts second u once other (subst (λ n. Numbered acts (low + (1 + n)) u) counted sited.2) in
      is ∙ rw (sited.0, expr_one scope condition e once stands, one, two) refl
  act_one scope low acts (block at body) act once (s, t, inside, is) numbered =
      let sited = subst (NumberedAct acts low) is numbered in
      is ∙ rw (sited.0, term_one scope (low + 1) acts body t once inside sited.1) refl
  act_one scope low acts (pure at expr) act once is numbered = pure_one scope low acts expr act once is numbered
