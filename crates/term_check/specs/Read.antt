-- A term and an act of the tree that were read: no check of them fails, and what was read stands for their core term, with its width,
-- with the width of the value of each `if`, and with the places of its acts. Or why they were not read.
use Rattle.std.specs.Prelude.{◌≡◌, ◌⊎◌, ◌+◌, ◌∷◌, ℕ, true, None, Some}
use Rattle.anvil_tree.specs.Tree as tree
use Rattle.anvil_tree.specs.Few.{act_count, act_count_in}
use Rattle.anvil_tree.specs.Order.{acts_of_term, acts_of_act}
use Rattle.core_term.specs.declared.term.CoreTerm.{CoreTerm}
use Rattle.core_term.specs.declared.term.CoreKind.{CoreKind}
use Rattle.core_term.specs.View.{term_of, act_of, places_of, places_in}
use Rattle.core_term.specs.Sized.{words_fit, words_fit_in}
use Rattle.core_term.specs.Widths.{term_width, act_width}
use Rattle.first_check.specs.Check.{first_refusal}
use Rattle.core_file.specs.Scope.{Scope}
use Rattle.core_file.specs.CoreTerm.{core_term, core_act}
use Rattle.core_file.specs.TermChecks.{Taken, term_checks, act_checks}
use Rattle.core_file.specs.declared.error.NameErr.{NameErr}
use Rattle.core_file.specs.declared.error.NameErr.TheVariants.{NoMemory}

-- with the sites from `low` up to `next`
pub record TermRead (scope : Scope) (taken : Taken) (low : ℕ) (written : tree.Term) (read : CoreTerm) (width next : ℕ) : Type 0 where
  pub passes : first_refusal (term_checks scope taken low written) ≡ None
  pub same : term_of scope.widths read ≡ core_term scope low written
  pub wide : width ≡ term_width scope.widths (core_term scope low written)
  pub words : words_fit scope.widths read ≡ true
  pub places : places_of read ≡ acts_of_term written
  pub counted : next ≡ low + act_count written

-- at a place
pub record ActRead (scope : Scope) (taken : Taken) (low : ℕ) (written : tree.Act) (place : ℕ) (read : CoreKind) (width next : ℕ) : Type 0 where
  pub passes : first_refusal (act_checks scope taken low written) ≡ None
  pub same : act_of scope.widths low read ≡ core_act scope low written
  pub wide : width ≡ act_width scope.widths (core_act scope low written)
  pub words : words_fit_in scope.widths read ≡ true
  pub places : place ∷ places_in read ≡ acts_of_act written
  pub counted : next ≡ low + act_count_in written

pub record TermFails (scope : Scope) (taken : Taken) (low : ℕ) (written : tree.Term) (fault : NameErr) : Type 0 where
  pub why : (fault ≡ NoMemory) ⊎ (first_refusal (term_checks scope taken low written) ≡ Some fault)

pub record ActFails (scope : Scope) (taken : Taken) (low : ℕ) (written : tree.Act) (fault : NameErr) : Type 0 where
  pub why : (fault ≡ NoMemory) ⊎ (first_refusal (act_checks scope taken low written) ≡ Some fault)
