-- The threads of a process that were read: no check of them fails, and what was read stands for their core threads. Or why they were not.
use Rattle.std.specs.Prelude.{◌≡◌, ◌⊎◌, ◌++◌, true, None, Some, List, map}
use Rattle.anvil_tree.specs.Tree as tree
use Rattle.anvil_tree.specs.Order.{acts_of_term}
use Rattle.core_term.specs.declared.term.CoreTerm.{CoreTerm}
use Rattle.core_term.specs.Lists.{Has}
use Rattle.core_term.specs.ProcessView.{thread_of}
use Rattle.core_term.specs.Sized.{words_fit}
use Rattle.core_term.specs.View.{term_of, places_of}
use Rattle.first_check.specs.Check.{first_refusal}
use Rattle.core_file.specs.Scope.{Scope}
use Rattle.core_file.specs.CoreProcess.{thread_from}
use Rattle.core_file.specs.CoreTerm.{core_term}
use Rattle.core_file.specs.TermChecks.{Taken, term_checks}
use Rattle.core_file.specs.TailChecks.{tail_checks}
use Rattle.core_file.specs.ThreadChecks.{none_taken, registers_set, endpoints_named, threads_checks}
use Rattle.core_file.specs.declared.error.NameErr.{NameErr}
use Rattle.core_file.specs.declared.error.NameErr.TheVariants.{NoMemory}
use Rattle.term_check.specs.Taken.{Takes}

-- a thread after those that took so much, and what all take with it
pub record ThreadRead (scope : Scope) (taken : Taken) (written : tree.Term) (read : CoreTerm) (more : Taken) : Type 0 where
  pub passes : first_refusal (term_checks scope taken 0 written) ≡ None
  pub tail : first_refusal (tail_checks written) ≡ None
  pub same : term_of scope.widths read ≡ core_term scope 0 written
  pub words : words_fit scope.widths read ≡ true
  pub places : places_of read ≡ acts_of_term written
  pub takes : Takes taken (registers_set written) (endpoints_named written) more

pub record ThreadFails (scope : Scope) (taken : Taken) (written : tree.Term) (fault : NameErr) : Type 0 where
  pub why : (fault ≡ NoMemory) ⊎ (first_refusal (term_checks scope taken 0 written ++ tail_checks written) ≡ Some fault)

pub record ThreadsRead (scope : Scope) (written : List tree.Term) (read : List CoreTerm) : Type 0 where
  pub passes : first_refusal (threads_checks scope none_taken written) ≡ None
  pub same : map (thread_of scope.widths) read ≡ map (thread_from scope) written
  pub words : (body : CoreTerm) → Has read body → words_fit scope.widths body ≡ true
  pub places : map places_of read ≡ map acts_of_term written

pub record ThreadsFail (scope : Scope) (written : List tree.Term) (fault : NameErr) : Type 0 where
  pub why : (fault ≡ NoMemory) ⊎ (first_refusal (threads_checks scope none_taken written) ≡ Some fault)
