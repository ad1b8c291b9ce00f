-- Where no check of a term fails, its core term is numbered: the sites are those of the tree order, and each variable
-- is the site of an act in scope.
--
-- The variables in scope are some of the acts in scope, and all their sites are below that of the next act. A word
-- that is bound stands for one of them.
use Rattle.std.proofs.Common.{◌≡◌, ℕ, ◌+◌, ◌<◌, ◌≤◌, inl, inr, arith, refl, sym, subst, Bool, true, false, ◌||◌, if◌then◌else◌, List, [], ◌∷◌, Option, Some, None, bytes_eq}
use Rattle.anvil_tree.specs.Tree as tree
use Rattle.anvil_tree.specs.Tree.{Name, literal, variable, shown, inverse, binary, slice, choice, unit, single, follow, beside, cycle, set, send, receive, when, either, block, pure}
use Rattle.anvil_tree.specs.Few.{act_count, act_count_in}
use Rattle.core_term.specs.Term.{Act, site}
use Rattle.core_term.specs.Numbering.{OneOf, InScope, Numbered, NumberedAct}
use Rattle.core_file.specs.Scope.{Bound, Scope, is_bound, site_of, bind, after}
use Rattle.core_file.specs.CoreTerm.{core_expr, core_pure, core_term, core_act}
use Rattle.core_file.specs.TermChecks.{Taken}
use Rattle.core_file.proofs.Held.{ExprHeld, PureHeld, TermHeld, ActHeld}
use Rattle.core_file.proofs.Sizes.{sizes_same, sizes_same_in, first_site, some_act}

-- The variables in scope are acts in scope, and the sites of these acts are below the next one.
pub record Covers (variables : List Bound) (acts : List Act) (low : ℕ) : Type 0 where
  pub bound : (name : Name) → is_bound variables name ≡ true → OneOf acts (site_of variables name)
  pub below : (number : ℕ) → OneOf acts number → number < low

pub nothing_covered : (low : ℕ) → Covers [] [] low
nothing_covered low = record { bound = λ name is. absurd cc; below = λ number one. elim one [ ] }

pub covers_later : (variables : List Bound) (acts : List Act) (low high : ℕ) → low ≤ high → Covers variables acts low
    → Covers variables acts high
covers_later variables acts low high later covers = record {
  bound = covers.bound;
  below = λ number one. let early = covers.below number one in omega arith;
}

inner_or_outer : (here : Bool) (variables : List Bound) (act : Act) (acts : List Act) (name : Name) (low : ℕ) → site act ≡ low
    → ((name : Name) → is_bound variables name ≡ true → OneOf acts (site_of variables name))
    → (here || is_bound variables name) ≡ true → OneOf (act ∷ acts) (if here then low else site_of variables name)
inner_or_outer true variables act acts name low at bound is = inl (sym at)
inner_or_outer false variables act acts name low at bound is = inr (bound name is)

below_next : (act : Act) (acts : List Act) (low high : ℕ) → site act ≡ low → low < high
    → ((number : ℕ) → OneOf acts number → number < low) → (number : ℕ) → OneOf (act ∷ acts) number → number < high
below_next act acts low high at later below number (inl here) = omega arith
below_next act acts low high at later below number (inr one) = let early = below number one in omega arith

-- after an act that may be bound
pub covers_bound : (bound : Option Name) (variables : List Bound) (act : Act) (acts : List Act) (low high : ℕ)
    → site act ≡ low → low < high
    → Covers variables acts low → Covers (bind bound low variables) (act ∷ acts) high
covers_bound None variables act acts low high at later covers = record {
  bound = λ name is. inr (covers.bound name is);
  below = below_next act acts low high at later covers.below;
}
covers_bound (Some word) variables act acts low high at later covers = record {
  bound = λ name is. inner_or_outer (bytes_eq name word) variables act acts name low at covers.bound is;
  below = below_next act acts low high at later covers.below;
}

-- the variables of an expression
pub in_scope : (scope : Scope) (acts : List Act) (low : ℕ) (expr : tree.Expr) → Covers scope.variables acts low
    → ExprHeld scope expr → InScope acts (core_expr scope expr)
in_scope scope acts low (literal at width value) covers held = λ number mention. elim mention [ ]
in_scope scope acts low (variable at name) covers held =
    λ number mention. subst (OneOf acts) (sym mention) (covers.bound name held.0)
in_scope scope acts low (shown at register) covers held = λ number mention. elim mention [ ]
in_scope scope acts low (inverse at operand) covers held = in_scope scope acts low operand covers held
in_scope scope acts low (binary at operator first second) covers held = λ number mention. elim mention [
  | inl here ↦ in_scope scope acts low first covers held.0 number here
  | inr here ↦ in_scope scope acts low second covers held.1 number here
]
in_scope scope acts low (slice at name high index) covers held =
    λ number mention. subst (OneOf acts) (sym mention) (covers.bound name held.0.0)
in_scope scope acts low (choice at condition first second) covers held = λ number mention. elim mention [
  | inl here ↦ in_scope scope acts low condition covers held.0 number here
  | inr (inl here) ↦ in_scope scope acts low first covers held.1 number here
  | inr (inr here) ↦ in_scope scope acts low second covers held.2 number here
]
in_scope scope acts low (unit at) covers held = elim held [ ]

numbered_pure : (scope : Scope) (acts : List Act) (low : ℕ) (expr : tree.Expr) → Covers scope.variables acts low
    → PureHeld scope expr → NumberedAct acts low (core_pure scope low expr)
numbered_pure scope acts low (variable at name) covers held = (refl, covers.bound name held)
numbered_pure scope acts low (unit at) covers held = refl
numbered_pure scope acts low (literal at width value) covers held =
    (refl, in_scope scope acts low (literal at width value) covers held)
numbered_pure scope acts low (shown at register) covers held = (refl, in_scope scope acts low (shown at register) covers held)
numbered_pure scope acts low (inverse at operand) covers held = (refl, in_scope scope acts low (inverse at operand) covers held)
numbered_pure scope acts low (binary at operator first second) covers held =
    (refl, in_scope scope acts low (binary at operator first second) covers held)
numbered_pure scope acts low (slice at name high index) covers held =
    (refl, in_scope scope acts low (slice at name high index) covers held)
numbered_pure scope acts low (choice at condition first second) covers held =
    (refl, in_scope scope acts low (choice at condition first second) covers held)

-- the acts in scope in the rest of a chain
covers_rest : (scope : Scope) (acts : List Act) (low : ℕ) (bound : Option Name) (act : tree.Act) → Covers scope.variables acts low
    → Covers (bind bound low scope.variables) (core_act scope low act ∷ acts) (low + act_count_in act)
covers_rest scope acts low bound act covers =
    let some = some_act act in
    covers_bound bound scope.variables (core_act scope low act) acts low (low + act_count_in act) (first_site scope low act) (omega arith) covers

mutual
  pub numbered : (scope : Scope) (taken : Taken) (acts : List Act) (low : ℕ) (term : tree.Term)
      → Covers scope.variables acts low → TermHeld scope taken low term
      → Numbered acts low (core_term scope low term)
  numbered scope taken acts low (single act) covers held = numbered_in scope taken acts low act covers held
  numbered scope taken acts low (follow bound act rest) covers held =
      let made = core_act scope low act in (
        numbered_in scope taken acts low act covers held.0,
        rw (sizes_same_in scope low act) (
            numbered (after scope bound low made) taken (made ∷ acts) (low + act_count_in act) rest (covers_rest scope acts low bound act covers) held.1),
      )
  numbered scope taken acts low (beside bound act rest) covers held =
      let made = core_act scope low act in (
        numbered_in scope taken acts low act covers held.0,
        rw (sizes_same_in scope low act) (
            numbered (after scope bound low made) taken (made ∷ acts) (low + act_count_in act) rest (covers_rest scope acts low bound act covers) held.1),
      )

  pub numbered_in : (scope : Scope) (taken : Taken) (acts : List Act) (low : ℕ) (act : tree.Act)
      → Covers scope.variables acts low → ActHeld scope taken low act
      → NumberedAct acts low (core_act scope low act)
  numbered_in scope taken acts low (cycle at count count_at) covers held = refl
  numbered_in scope taken acts low (set at register register_at value) covers held =
      (refl, in_scope scope acts low value covers held.2)
  numbered_in scope taken acts low (send at endpoint endpoint_at message message_at value) covers held =
      (refl, in_scope scope acts low value covers held.1)
  numbered_in scope taken acts low (receive at endpoint endpoint_at message message_at) covers held = refl
  numbered_in scope taken acts low (when at condition first) covers held = (
    refl,
    numbered scope taken acts (low + 1) first (covers_later scope.variables acts low (low + 1) (omega arith) covers) held.2,
    in_scope scope acts low condition covers held.0,
  )
  numbered_in scope taken acts low (either at condition first second) covers held =
      let behind = low + (1 + act_count first) in (
        refl,
        numbered scope taken acts (low + 1) first (covers_later scope.variables acts low (low + 1) (omega arith) covers) held.2,
        rw (sizes_same scope (low + 1) first) (numbered scope taken acts behind second (covers_later scope.variables acts low behind (omega arith) covers) held.3),
        in_scope scope acts low condition covers held.0,
      )
  numbered_in scope taken acts low (block at body) covers held =
      (refl, numbered scope taken acts (low + 1) body (covers_later scope.variables acts low (low + 1) (omega arith) covers) held)
  numbered_in scope taken acts low (pure at expr) covers held = numbered_pure scope acts low expr covers held
