-- How an act that is an expression is read: a word alone waits, `()` does nothing, and each other expression is computed.
use Rattle.std.proofs.Common.{◌≡◌, ◌∙◌, ◌⊎◌, ℕ, Bool, true, false, [], None, Some, refl, ap, sym, inl, inr}
use Rattle.anvil_tree.specs.declared.expr.Expr.{Expr}
use Rattle.anvil_tree.specs.declared.expr.ExprKind.{ExprKind, Lit, Var, Deref, Not', Bin', Slice, Choose', Unit}
use Rattle.anvil_tree.specs.Tree.{Name}
use Rattle.anvil_tree.specs.View.{expr_at}
use Rattle.core_term.specs.declared.term.CoreExpr.{CoreExpr}
use Rattle.core_term.specs.declared.term.CoreKind.{CoreKind, Wait, Pure}
use Rattle.core_term.specs.Term as term
use Rattle.core_term.specs.Sized.{words_fit_in}
use Rattle.core_term.specs.View.{expr_of, act_of, places_in}
use Rattle.core_term.specs.Widths.{act_width}
use Rattle.first_check.specs.Check.{first_refusal}
use Rattle.core_file.specs.Scope.{Scope, is_bound, site_of}
use Rattle.core_file.specs.CoreTerm.{core_expr, core_pure, width_of}
use Rattle.core_file.specs.ExprChecks.{expr_checks}
use Rattle.core_file.specs.TermChecks.{pure_checks}
use Rattle.core_file.specs.declared.error.NameErr.{NameErr}
use Rattle.core_file.specs.declared.error.NameErr.TheVariants.{NoMemory, Unknown}

-- what the clause of `read_pure` says of what was read
pub record PureRead (scope : Scope) (site at : ℕ) (written : ExprKind) (read : CoreKind) (width : ℕ) : Type 0 where
  pub passes : first_refusal (pure_checks scope (expr_at at written)) ≡ None
  pub same : act_of scope.widths site read ≡ core_pure scope site (expr_at at written)
  pub wide : width ≡ act_width scope.widths (core_pure scope site (expr_at at written))
  pub words : words_fit_in scope.widths read ≡ true
  pub places : places_in read ≡ []

-- A word alone.

pub word_read : (scope : Scope) (site at : ℕ) (written : ExprKind) (name : Name) (var width : ℕ) → written ≡ Var name → is_bound scope.variables name ≡ true
    → var ≡ site_of scope.variables name → width ≡ scope.widths.variables var → PureRead scope site at written (Wait var) width
word_read scope site at written name var width is bound found wide = rw is (record {
  passes = rw bound refl;
  same = ap (term.Wait site) found;
  wide = wide ∙ ap scope.widths.variables found;
  words = refl;
  places = refl;
})

pub word_fails : (scope : Scope) (at : ℕ) (written : ExprKind) (name : Name) → written ≡ Var name → is_bound scope.variables name ≡ false
    → first_refusal (pure_checks scope (expr_at at written)) ≡ Some (Unknown at)
word_fails scope at written name is unbound = rw (is, unbound) refl

-- Each other expression but `()`.

abbrev pub is_computed : ExprKind → Bool
is_computed (Var name) = false
is_computed Unit = false
is_computed written = true

checks_are : (scope : Scope) (at : ℕ) (written : ExprKind) → is_computed written ≡ true → pure_checks scope (expr_at at written) ≡ expr_checks scope (expr_at at written)
checks_are scope at (Lit width value) is = refl
checks_are scope at (Var name) is = absurd cc
checks_are scope at (Deref register) is = refl
checks_are scope at (Not' pointer operand_at operand) is = refl
checks_are scope at (Bin' operator pointer first_at first pointer' second_at second) is = refl
checks_are scope at (Slice name high low) is = refl
checks_are scope at (Choose' pointer condition_at condition pointer' first_at first pointer'' second_at second) is = refl
checks_are scope at Unit is = absurd cc

act_is : (scope : Scope) (site at : ℕ) (written : ExprKind) → is_computed written ≡ true
    → core_pure scope site (expr_at at written) ≡ term.Pure site (core_expr scope (expr_at at written))
act_is scope site at (Lit width value) is = refl
act_is scope site at (Var name) is = absurd cc
act_is scope site at (Deref register) is = refl
act_is scope site at (Not' pointer operand_at operand) is = refl
act_is scope site at (Bin' operator pointer first_at first pointer' second_at second) is = refl
act_is scope site at (Slice name high low) is = refl
act_is scope site at (Choose' pointer condition_at condition pointer' first_at first pointer'' second_at second) is = refl
act_is scope site at Unit is = absurd cc

pub value_read : (scope : Scope) (site at : ℕ) (written : ExprKind) (read : CoreExpr) (width : ℕ) → is_computed written ≡ true
    → first_refusal (expr_checks scope (expr_at at written)) ≡ None → expr_of scope.widths read ≡ core_expr scope (expr_at at written)
    → width ≡ width_of scope (expr_at at written) → PureRead scope site at written (Pure read) width
value_read scope site at written read width is none same wide = record {
  passes = ap first_refusal (checks_are scope at written is) ∙ none;
  same = ap (term.Pure site) same ∙ sym (act_is scope site at written is);
  wide = wide ∙ ap (act_width scope.widths) (sym (act_is scope site at written is));
  words = refl;
  places = refl;
}

pub value_fails : (scope : Scope) (at : ℕ) (written : ExprKind) (fault : NameErr) → is_computed written ≡ true
    → (fault ≡ NoMemory) ⊎ (first_refusal (expr_checks scope (expr_at at written)) ≡ Some fault)
    → (fault ≡ NoMemory) ⊎ (first_refusal (pure_checks scope (expr_at at written)) ≡ Some fault)
value_fails scope at written fault is why =
    elim why [ inl none ↦ inl none | inr some ↦ inr (ap first_refusal (checks_are scope at written is) ∙ some) ]
