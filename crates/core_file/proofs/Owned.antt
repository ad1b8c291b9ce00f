-- The threads of a process in which no check fails are apart: no two of them name ports of one endpoint or set one
-- register.
--
-- The ports that a core term names are of endpoints that its tree names, and of none that earlier threads took; and
-- so with the registers that it sets. What a thread names, each later thread finds taken. Registers of one number
-- have one name.
use Rattle.std.proofs.Math.ListN.{get_or}
use Rattle.std.proofs.Common.{◌≡◌, ◌∙◌, ℕ, ◌+◌, inl, inr, arith, refl, sym, ap, subst, Bool, true, false, cond, not, ◌||◌, ◌==◌, List, [], ◌∷◌, ◌++◌, map, bytes_eq, suc}
use Rattle.std.proofs.lemmas.Bool.Decides.{nat_tests}
use Rattle.std.specs.List.{list_any, list_all, position_or_len}
use Rattle.anvil_tree.specs.Tree as tree
use Rattle.anvil_tree.specs.Tree.{Name, literal, variable, shown, inverse, binary, slice, choice, unit, single, follow, beside, cycle, set, send, receive, when, either, block, pure}
use Rattle.anvil_tree.specs.Few.{act_count, act_count_in}
use Rattle.core_term.specs.Lists.{Has}
use Rattle.core_term.specs.Process.{Port, Process, Thread, nth_port, endpoint_of}
use Rattle.core_term.specs.Sized as sized
use Rattle.core_term.specs.Sized.{ports_named, ports_named_in, none_shared, are_apart, each_apart}
use Rattle.core_file.specs.Scope.{Scope, is_among, number_among, is_port, port_number, after}
use Rattle.core_file.specs.CoreTerm.{core_pure, core_term, core_act}
use Rattle.core_file.specs.CoreProcess.{thread_from}
use Rattle.core_file.specs.TermChecks.{Taken}
use Rattle.core_file.specs.ThreadChecks.{registers_set, registers_set_in, endpoints_named, endpoints_named_in, taken_with}
use Rattle.core_file.proofs.Apart.{both_true, first_true, not_false, false_not, never_true, true_is_not_false, same_name, name_same, has_left, has_right, has_either, all_from, any_from}
use Rattle.core_file.proofs.Held.{PortHeld, TermHeld, ActHeld, ThreadsHeld}

-- The item at the first place that passes a test passes it.

at_place_by : {X : Type 0} (test : X → Bool) (item other : X) (items : List X) (here : Bool) → test item ≡ here
    → (here || list_any test items) ≡ true
    → (list_any test items ≡ true → test (get_or items (position_or_len test items) other) ≡ true)
    → test (get_or (item ∷ items) (cond (not here) (1 + position_or_len test items) 0) other) ≡ true
at_place_by test item other items true is any later = is
at_place_by test item other items false is any later =
    let step : 1 + position_or_len test items ≡ suc (position_or_len test items) = omega arith in
    ap (λ place. test (get_or (item ∷ items) place other)) step ∙ later any

at_place : {X : Type 0} (test : X → Bool) (items : List X) (other : X) → list_any test items ≡ true
    → test (get_or items (position_or_len test items) other) ≡ true
at_place test [] other any = absurd cc
at_place test (item ∷ items) other any = at_place_by test item other items (test item) refl any (at_place test items other)

port_place_by : (test : Port → Bool) (port : Port) (ports : List Port) (here : Bool) → test port ≡ here
    → (here || list_any test ports) ≡ true
    → (list_any test ports ≡ true → test (nth_port ports (position_or_len test ports)) ≡ true)
    → test (nth_port (port ∷ ports) (cond (not here) (1 + position_or_len test ports) 0)) ≡ true
port_place_by test port ports true is any later = is
port_place_by test port ports false is any later =
    let step : 1 + position_or_len test ports ≡ suc (position_or_len test ports) = omega arith in
    ap (λ place. test (nth_port (port ∷ ports) place)) step ∙ later any

port_place : (test : Port → Bool) (ports : List Port) → list_any test ports ≡ true
    → test (nth_port ports (position_or_len test ports)) ≡ true
port_place test [] any = absurd cc
port_place test (port ∷ ports) any = port_place_by test port ports (test port) refl any (port_place test ports)

-- What a core term names.

-- the name is one of these, and not taken
abbrev Fresh : List Name → List Name → Name → Type 0
Fresh own taken name = Has own name × (is_among taken name ≡ false)

fresh_left : (own others taken : List Name) (name : Name) → Fresh own taken name → Fresh (own ++ others) taken name
fresh_left own others taken name fresh = (has_left own others name fresh.0, fresh.1)

fresh_right : (own others taken : List Name) (name : Name) → Fresh others taken name → Fresh (own ++ others) taken name
fresh_right own others taken name fresh = (has_right own others name fresh.0, fresh.1)

module _ (plain : Process) where
  port_fresh : (scope : Scope) (taken : Taken) (received : Bool) (endpoint message : Name) → scope.ports ≡ plain.ports
      → PortHeld scope taken received endpoint message
      → Fresh (endpoint ∷ []) taken.endpoints (endpoint_of plain (port_number scope endpoint message))
  port_fresh scope taken received endpoint message ports held =
      let number = port_number scope endpoint message in
      let passes = port_place (is_port endpoint message) scope.ports held.1 in
      let same = same_name endpoint (nth_port scope.ports number).endpoint (first_true _ _ passes) in
      let named : endpoint ≡ endpoint_of plain number = same ∙ ap (λ all. (nth_port all number).endpoint) ports in
      (inl (sym named), subst (λ name. is_among taken.endpoints name ≡ false) named (not_false _ held.3))

  pure_names_none : (scope : Scope) (low : ℕ) (expr : tree.Expr) (port : ℕ) → Has (ports_named_in (core_pure scope low expr)) port → ⊥
  pure_names_none scope low (literal at width value) port has = has
  pure_names_none scope low (variable at name) port has = has
  pure_names_none scope low (shown at register) port has = has
  pure_names_none scope low (inverse at operand) port has = has
  pure_names_none scope low (binary at operator first second) port has = has
  pure_names_none scope low (slice at name high index) port has = has
  pure_names_none scope low (choice at condition first second) port has = has
  pure_names_none scope low (unit at) port has = has

  mutual
    named : (scope : Scope) (taken : Taken) (low : ℕ) (term : tree.Term) → scope.ports ≡ plain.ports
        → TermHeld scope taken low term
        → (port : ℕ) → Has (ports_named (core_term scope low term)) port
        → Fresh (endpoints_named term) taken.endpoints (endpoint_of plain port)
    named scope taken low (single act) ports held port has = named_in scope taken low act ports held port has
    named scope taken low (follow bound act rest) ports held port has =
        let made = core_act scope low act in
        elim (has_either (ports_named_in made) (ports_named (core_term (after scope bound low made) (low + act_count_in act) rest)) port has) [
          | inl here ↦
              fresh_left (endpoints_named_in act) (endpoints_named rest) taken.endpoints (endpoint_of plain port) (named_in scope taken low act ports held.0 port here)
          | inr there ↦ fresh_right (endpoints_named_in act) (endpoints_named rest) taken.endpoints (endpoint_of plain port)
              (named (after scope bound low made) taken (low + act_count_in act) rest ports held.1 port there)
        ]
    named scope taken low (beside bound act rest) ports held port has =
        let made = core_act scope low act in
        elim (has_either (ports_named_in made) (ports_named (core_term (after scope bound low made) (low + act_count_in act) rest)) port has) [
          | inl here ↦
              fresh_left (endpoints_named_in act) (endpoints_named rest) taken.endpoints (endpoint_of plain port) (named_in scope taken low act ports held.0 port here)
          | inr there ↦ fresh_right (endpoints_named_in act) (endpoints_named rest) taken.endpoints (endpoint_of plain port)
              (named (after scope bound low made) taken (low + act_count_in act) rest ports held.1 port there)
        ]

    named_in : (scope : Scope) (taken : Taken) (low : ℕ) (act : tree.Act) → scope.ports ≡ plain.ports
        → ActHeld scope taken low act
        → (port : ℕ) → Has (ports_named_in (core_act scope low act)) port
        → Fresh (endpoints_named_in act) taken.endpoints (endpoint_of plain port)
    named_in scope taken low (cycle at count count_at) ports held port has = elim has [ ]
    named_in scope taken low (set at register register_at value) ports held port has = elim has [ ]
    named_in scope taken low (send at endpoint endpoint_at message message_at value) ports held port (inl here) =
        subst (λ n. Fresh (endpoint ∷ []) taken.endpoints (endpoint_of plain n)) (sym here) (port_fresh scope taken false endpoint message ports held.0)
    named_in scope taken low (send at endpoint endpoint_at message message_at value) ports held port (inr has) = elim has [ ]
    named_in scope taken low (receive at endpoint endpoint_at message message_at) ports held port (inl here) =
        subst (λ n. Fresh (endpoint ∷ []) taken.endpoints (endpoint_of plain n)) (sym here) (port_fresh scope taken true endpoint message ports held)
    named_in scope taken low (receive at endpoint endpoint_at message message_at) ports held port (inr has) = elim has [ ]
    named_in scope taken low (when at condition first) ports held port has = named scope taken (low + 1) first ports held.2 port has
    named_in scope taken low (either at condition first second) ports held port has =
        let behind = low + (1 + act_count first) in
        elim (has_either (ports_named (core_term scope (low + 1) first)) (ports_named (core_term scope behind second)) port has) [
          | inl here ↦
              fresh_left (endpoints_named first) (endpoints_named second) taken.endpoints (endpoint_of plain port) (named scope taken (low + 1) first ports held.2 port here)
          | inr there ↦
              fresh_right (endpoints_named first) (endpoints_named second) taken.endpoints (endpoint_of plain port) (named scope taken behind second ports held.3 port there)
        ]
    named_in scope taken low (block at body) ports held port has = named scope taken (low + 1) body ports held port has
    named_in scope taken low (pure at expr) ports held port has = absurd (pure_names_none scope low expr port has)

-- What a core term sets.

pure_sets_none : (scope : Scope) (low : ℕ) (expr : tree.Expr) (entry : ℕ)
    → Has (sized.registers_set_in (core_pure scope low expr)) entry → ⊥
pure_sets_none scope low (literal at width value) entry has = has
pure_sets_none scope low (variable at name) entry has = has
pure_sets_none scope low (shown at register) entry has = has
pure_sets_none scope low (inverse at operand) entry has = has
pure_sets_none scope low (binary at operator first second) entry has = has
pure_sets_none scope low (slice at name high index) entry has = has
pure_sets_none scope low (choice at condition first second) entry has = has
pure_sets_none scope low (unit at) entry has = has

-- the name of the register of a number
abbrev name_at : List Name → ℕ → Name
name_at names entry = get_or names entry []

module _ (names : List Name) where
  mutual
    sets : (scope : Scope) (taken : Taken) (low : ℕ) (term : tree.Term) → scope.registers ≡ names → TermHeld scope taken low term
        → (entry : ℕ) → Has (sized.registers_set (core_term scope low term)) entry
        → Fresh (registers_set term) taken.registers (name_at names entry)
    sets scope taken low (single act) known held entry has = sets_in scope taken low act known held entry has
    sets scope taken low (follow bound act rest) known held entry has =
        let made = core_act scope low act in
        elim (has_either (sized.registers_set_in made) (sized.registers_set (core_term (after scope bound low made) (low + act_count_in act) rest)) entry has) [
          | inl here ↦
              fresh_left (registers_set_in act) (registers_set rest) taken.registers (name_at names entry) (sets_in scope taken low act known held.0 entry here)
          | inr there ↦ fresh_right (registers_set_in act) (registers_set rest) taken.registers (name_at names entry)
              (sets (after scope bound low made) taken (low + act_count_in act) rest known held.1 entry there)
        ]
    sets scope taken low (beside bound act rest) known held entry has =
        let made = core_act scope low act in
        elim (has_either (sized.registers_set_in made) (sized.registers_set (core_term (after scope bound low made) (low + act_count_in act) rest)) entry has) [
          | inl here ↦
              fresh_left (registers_set_in act) (registers_set rest) taken.registers (name_at names entry) (sets_in scope taken low act known held.0 entry here)
          | inr there ↦ fresh_right (registers_set_in act) (registers_set rest) taken.registers (name_at names entry)
              (sets (after scope bound low made) taken (low + act_count_in act) rest known held.1 entry there)
        ]

    sets_in : (scope : Scope) (taken : Taken) (low : ℕ) (act : tree.Act) → scope.registers ≡ names → ActHeld scope taken low act
        → (entry : ℕ) → Has (sized.registers_set_in (core_act scope low act)) entry
        → Fresh (registers_set_in act) taken.registers (name_at names entry)
    sets_in scope taken low (cycle at count count_at) known held entry has = elim has [ ]
    sets_in scope taken low (set at register register_at value) known held entry (inl here) =
        let number = number_among scope.registers register in
        let same = same_name register (name_at scope.registers number) (at_place (bytes_eq register) scope.registers [] held.0) in
        let named : register ≡ name_at names number = same ∙ ap (λ all. name_at all number) known in
        subst (λ n. Fresh (register ∷ []) taken.registers (name_at names n)) (sym here)
        (inl (sym named), subst (λ name. is_among taken.registers name ≡ false) named (not_false _ held.1))
    sets_in scope taken low (set at register register_at value) known held entry (inr has) = elim has [ ]
    sets_in scope taken low (send at endpoint endpoint_at message message_at value) known held entry has = elim has [ ]
    sets_in scope taken low (receive at endpoint endpoint_at message message_at) known held entry has = elim has [ ]
    sets_in scope taken low (when at condition first) known held entry has = sets scope taken (low + 1) first known held.2 entry has
    sets_in scope taken low (either at condition first second) known held entry has =
        let behind = low + (1 + act_count first) in
        elim (has_either (sized.registers_set (core_term scope (low + 1) first)) (sized.registers_set (core_term scope behind second)) entry has) [
          | inl here ↦
              fresh_left (registers_set first) (registers_set second) taken.registers (name_at names entry) (sets scope taken (low + 1) first known held.2 entry here)
          | inr there ↦
              fresh_right (registers_set first) (registers_set second) taken.registers (name_at names entry) (sets scope taken behind second known held.3 entry there)
        ]
    sets_in scope taken low (block at body) known held entry has = sets scope taken (low + 1) body known held entry has
    sets_in scope taken low (pure at expr) known held entry has = absurd (pure_sets_none scope low expr entry has)

-- Threads.

none_shared_from : (shared : ℕ → ℕ → Bool) (one other : List ℕ) → ((port n : ℕ) → Has one port → Has other n → shared port n ≡ false)
    → none_shared shared one other ≡ true
none_shared_from shared one other apart =
    all_from (λ m. list_all (λ n. not (shared m n)) other) one
    (λ m has. all_from (λ n. not (shared m n)) other (λ n also. false_not (shared m n) (apart m n has also)))

-- a name that is taken is none that is not
taken_apart : (taken : List Name) (name other : Name) → Has taken name → is_among taken other ≡ false
    → bytes_eq name other ≡ false
taken_apart taken name other has fresh =
    never_true (bytes_eq name other) (λ same. true_is_not_false (is_among taken other)
    (any_from (bytes_eq other) taken name has (name_same other name (sym (same_name name other same)))) fresh)

module _ (plain : Process) where
  -- what a thread names and sets is taken
  record IsTaken (scope : Scope) (taken : Taken) (one : Thread) : Type 0 where
    ports : (port : ℕ) → Has (ports_named one.body) port → Has taken.endpoints (endpoint_of plain port)
    registers : (entry : ℕ) → Has (sized.registers_set one.body) entry → Has taken.registers (name_at scope.registers entry)

  taken_more : (scope : Scope) (taken : Taken) (one : Thread) (thread : tree.Term) → IsTaken scope taken one
      → IsTaken scope (taken_with taken thread) one
  taken_more scope taken one thread is = record {
    ports = λ m has. has_left taken.endpoints (endpoints_named thread) (endpoint_of plain m) (is.ports m has);
    registers = λ r has. has_left taken.registers (registers_set thread) (name_at scope.registers r) (is.registers r has);
  }

  taken_own : (scope : Scope) (taken : Taken) (thread : tree.Term) → scope.ports ≡ plain.ports
      → TermHeld scope taken 0 thread → IsTaken scope (taken_with taken thread) (thread_from scope thread)
  taken_own scope taken thread ports held = record {
    ports = λ m has. has_right taken.endpoints (endpoints_named thread) (endpoint_of plain m) (named plain scope taken 0 thread ports held m has).0;
    registers =
        λ r has. has_right taken.registers (registers_set thread) (name_at scope.registers r) (sets scope.registers scope taken 0 thread refl held r has).0;
  }

  apart_from : (scope : Scope) (taken : Taken) (one : Thread) (thread : tree.Term) → scope.ports ≡ plain.ports
      → IsTaken scope taken one → TermHeld scope taken 0 thread
      → are_apart plain one (thread_from scope thread) ≡ true
  apart_from scope taken one thread ports is held =
      both_true _ _
      (none_shared_from (λ port other. bytes_eq (endpoint_of plain port) (endpoint_of plain other)) (ports_named one.body) (ports_named (core_term scope 0 thread))
      (λ port other has also. taken_apart taken.endpoints (endpoint_of plain port) (endpoint_of plain other) (is.ports port has) (named plain scope taken 0 thread ports held other also).1))
      (none_shared_from (λ entry other. entry == other) (sized.registers_set one.body) (sized.registers_set (core_term scope 0 thread))
      (λ entry other has also. never_true (entry == other) (λ same.
      let equal : entry ≡ other = grind (arith, nat_tests) in
      let differ =
      taken_apart taken.registers (name_at scope.registers entry) (name_at scope.registers other) (is.registers entry has) (sets scope.registers scope taken 0 thread refl held other also).1 in
      true_is_not_false (bytes_eq (name_at scope.registers entry) (name_at scope.registers other)) (name_same _ _ (ap (name_at scope.registers) equal)) differ)))

  apart_from_all : (scope : Scope) (taken : Taken) (one : Thread) (threads : List tree.Term) → scope.ports ≡ plain.ports
      → IsTaken scope taken one → ThreadsHeld scope taken threads
      → list_all (are_apart plain one) (map (thread_from scope) threads) ≡ true
  apart_from_all scope taken one [] ports is held = refl
  apart_from_all scope taken one (thread ∷ threads) ports is held =
      both_true _ _ (apart_from scope taken one thread ports is held.0)
      (apart_from_all scope (taken_with taken thread) one threads ports (taken_more scope taken one thread is) held.2)

  pub threads_apart : (scope : Scope) (taken : Taken) (threads : List tree.Term) → scope.ports ≡ plain.ports
      → ThreadsHeld scope taken threads
      → each_apart plain (map (thread_from scope) threads) ≡ true
  threads_apart scope taken [] ports held = refl
  threads_apart scope taken (thread ∷ threads) ports held =
      both_true _ _
      (apart_from_all scope (taken_with taken thread) (thread_from scope thread) threads ports (taken_own scope taken thread ports held.0) held.2)
      (threads_apart scope (taken_with taken thread) threads ports held.2)
