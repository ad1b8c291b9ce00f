-- The checks of the threads of a process in their order: the walk of the acts of each, and after it its tail. A
-- thread takes from later ones the registers that it sets and the endpoints that it names.
use Rattle.std.specs.Prelude.{List, [], ◌∷◌, ◌++◌}
use Rattle.anvil_tree.specs.Tree as tree
use Rattle.anvil_tree.specs.Tree.{Name}
use Rattle.core_file.specs.Scope.{Scope}
use Rattle.core_file.specs.Refused.{Checks}
use Rattle.core_file.specs.TermChecks.{Taken, term_checks}
use Rattle.core_file.specs.TailChecks.{tail_checks}

-- the registers that a term sets
abbrev mutual
  pub registers_set : tree.Term → List Name
  registers_set (tree.single act) = registers_set_in act
  registers_set (tree.follow bound act rest) = registers_set_in act ++ registers_set rest
  registers_set (tree.beside bound act rest) = registers_set_in act ++ registers_set rest

  pub registers_set_in : tree.Act → List Name
  registers_set_in (tree.set at register register_at value) = register ∷ []
  registers_set_in (tree.when at condition first) = registers_set first
  registers_set_in (tree.either at condition first second) = registers_set first ++ registers_set second
  registers_set_in (tree.block at body) = registers_set body
  registers_set_in act = []

-- the endpoints that a term names
abbrev mutual
  pub endpoints_named : tree.Term → List Name
  endpoints_named (tree.single act) = endpoints_named_in act
  endpoints_named (tree.follow bound act rest) = endpoints_named_in act ++ endpoints_named rest
  endpoints_named (tree.beside bound act rest) = endpoints_named_in act ++ endpoints_named rest

  pub endpoints_named_in : tree.Act → List Name
  endpoints_named_in (tree.send at endpoint endpoint_at message message_at value) = endpoint ∷ []
  endpoints_named_in (tree.receive at endpoint endpoint_at message message_at) = endpoint ∷ []
  endpoints_named_in (tree.when at condition first) = endpoints_named first
  endpoints_named_in (tree.either at condition first second) = endpoints_named first ++ endpoints_named second
  endpoints_named_in (tree.block at body) = endpoints_named body
  endpoints_named_in act = []

abbrev pub none_taken : Taken
none_taken = record { registers = []; endpoints = [] }

abbrev pub taken_with : Taken → tree.Term → Taken
taken_with taken thread = record {
  registers = taken.registers ++ registers_set thread;
  endpoints = taken.endpoints ++ endpoints_named thread;
}

-- the threads after those that took so much, in a process where so much is known
abbrev pub threads_checks : Scope → Taken → List tree.Term → Checks
threads_checks scope taken [] = []
threads_checks scope taken (thread ∷ threads) =
    term_checks scope taken 0 thread ++ (tail_checks thread ++ threads_checks scope (taken_with taken thread) threads)
