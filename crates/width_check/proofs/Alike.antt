-- Checks ask only whether a name is taken: two lists of the same names are alike.
use Rattle.std.proofs.Common.{◌≡◌, ◌∙◌, ◌+◌, ℕ, Bool, true, ◌++◌, ◌||◌, refl, ap, sym}
use Rattle.anvil_tree.specs.Tree as tree
use Rattle.anvil_tree.specs.Tree.{Name}
use Rattle.anvil_tree.specs.Few.{act_count, act_count_in}
use Rattle.std.proofs.lemmas.List.Folds.{list_any-append}
use Rattle.std.specs.Prelude.{bytes_eq}
use Rattle.core_file.specs.Scope.{Scope, is_among, after}
use Rattle.core_file.specs.CoreTerm.{core_act}
use Rattle.core_file.specs.TermChecks.{Taken, term_checks, act_checks, port_checks}
use Rattle.core_file.specs.ThreadChecks.{registers_set, endpoints_named, taken_with}
use Rattle.term_check.specs.Taken.{Takes}

pub record Alike (one other : Taken) : Type 0 where
  pub registers : (name : Name) → is_among one.registers name ≡ is_among other.registers name
  pub endpoints : (name : Name) → is_among one.endpoints name ≡ is_among other.endpoints name

pub same_alike : (taken : Taken) → Alike taken taken
same_alike taken = record { registers = λ name. refl; endpoints = λ name. refl }

port_alike : (scope : Scope) (one other : Taken) (received : Bool) (at : ℕ) (endpoint : Name) (endpoint_at : ℕ) (message : Name) (message_at : ℕ) → Alike one other
    → port_checks scope one received at endpoint endpoint_at message message_at ≡ port_checks scope other received at endpoint endpoint_at message message_at
port_alike scope one other received at endpoint endpoint_at message message_at alike = rw (alike.endpoints endpoint) refl

mutual
  pub term_alike : (scope : Scope) (one other : Taken) (low : ℕ) (term : tree.Term) → Alike one other → term_checks scope one low term ≡ term_checks scope other low term
  term_alike scope one other low (tree.single act) alike = act_alike scope one other low act alike
  term_alike scope one other low (tree.follow bound act rest) alike =
      ap (λ l. l ++ term_checks (after scope bound low (core_act scope low act)) one (low + act_count_in act) rest) (act_alike scope one other low act alike)
      ∙ ap (λ l. act_checks scope other low act ++ l) (term_alike (after scope bound low (core_act scope low act)) one other (low + act_count_in act) rest alike)
  term_alike scope one other low (tree.beside bound act rest) alike =
      ap (λ l. l ++ term_checks (after scope bound low (core_act scope low act)) one (low + act_count_in act) rest) (act_alike scope one other low act alike)
      ∙ ap (λ l. act_checks scope other low act ++ l) (term_alike (after scope bound low (core_act scope low act)) one other (low + act_count_in act) rest alike)

  act_alike : (scope : Scope) (one other : Taken) (low : ℕ) (act : tree.Act) → Alike one other → act_checks scope one low act ≡ act_checks scope other low act
  act_alike scope one other low (tree.cycle at count count_at) alike = refl
  act_alike scope one other low (tree.set at register register_at value) alike = rw (alike.registers register) refl
  act_alike scope one other low (tree.send at endpoint endpoint_at message message_at value) alike = rw (alike.endpoints endpoint) refl
  act_alike scope one other low (tree.receive at endpoint endpoint_at message message_at) alike = port_alike scope one other true at endpoint endpoint_at message message_at alike
  act_alike scope one other low (tree.when at condition first) alike = rw (term_alike scope one other (low + 1) first alike) refl
  act_alike scope one other low (tree.either at condition first second) alike =
      rw (term_alike scope one other (low + 1) first alike, term_alike scope one other (low + (1 + act_count first)) second alike) refl
  act_alike scope one other low (tree.block at body) alike = term_alike scope one other (low + 1) body alike
  act_alike scope one other low (tree.pure at expr) alike = refl

-- with what a thread takes
pub more_alike : (earlier old new : Taken) (thread : tree.Term) → Alike earlier old → Takes old (registers_set thread) (endpoints_named thread) new
    → Alike (taken_with earlier thread) new
more_alike earlier old new thread alike takes = record {
  registers = λ name. list_any-append (bytes_eq name) earlier.registers (registers_set thread)
      ∙ ap (λ b. b || is_among (registers_set thread) name) (alike.registers name) ∙ sym (takes.registers_are name);
  endpoints = λ name. list_any-append (bytes_eq name) earlier.endpoints (endpoints_named thread)
      ∙ ap (λ b. b || is_among (endpoints_named thread) name) (alike.endpoints name) ∙ sym (takes.endpoints_are name);
}
