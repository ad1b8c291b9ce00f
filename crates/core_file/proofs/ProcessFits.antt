-- A process in which no check fails is sized and owned once names stand for numbers: the lemmas on ports, on terms
-- and on owners, put together in the order of the definition. Then the same of what the code makes of it: registers
-- with the width of each reset, and bodies with the width of each `if`.
use Rattle.std.proofs.Common.{◌≡◌, ◌∙◌, ◌≤◌, arith, refl, sym, ap, subst, true, ◌==◌, nat_le, List, [], ◌∷◌, ◌++◌, length, map, bytes_eq, inl, inr}
use Rattle.std.proofs.lemmas.Bool.Decides.{nat_tests}
use Rattle.std.proofs.lemmas.List.{length-map}
use Rattle.std.specs.List.{list_all, AllByRecursion}
use Rattle.anvil_lexer.specs.GoodName.{is_good_name}
use Rattle.anvil_tree.specs.declared.file.Register.{Register}
use Rattle.anvil_tree.specs.Tree as tree
use Rattle.anvil_tree.specs.Tree.{Name, process}
use Rattle.anvil_tree.specs.Few.{ThreadIsFew, ItemIsFew}
use Rattle.core_term.specs.declared.term.CoreTerm.{CoreTerm}
use Rattle.core_term.specs.declared.process.CorePort.{CorePort}
use Rattle.core_term.specs.declared.process.CoreReg.{CoreReg}
use Rattle.core_term.specs.Limits.{most_threads, most_registers, most_ports}
use Rattle.core_term.specs.Lists.{Has}
use Rattle.core_term.specs.Names.{has_no_twice}
use Rattle.core_term.specs.Process as core
use Rattle.core_term.specs.Process.{Process, Thread}
use Rattle.core_term.specs.ProcessView as view
use Rattle.core_term.specs.ProcessView.{widths_of, process_of}
use Rattle.core_term.specs.Sized.{port_fits, is_same_port, term_fits, process_fits, register_fits, is_same_register, words_fit, each_apart, is_sized, is_owned}
use Rattle.channel_classes.specs.Classes.{Class}
use Rattle.core_file.specs.Laws.{IsMade}
use Rattle.core_file.specs.Scope.{Scope}
use Rattle.core_file.specs.Refused.{is_width}
use Rattle.core_file.specs.CoreProcess.{register_of, scope_of, thread_from, core_process}
use Rattle.core_file.specs.TermChecks.{Taken}
use Rattle.core_file.specs.ThreadChecks.{none_taken, taken_with}
use Rattle.core_file.proofs.Apart.{both_true, has_map, map_has, all_from, names_turned, no_twice, AllApart, apart_items, map_twice, AllNew, new_apart}
use Rattle.core_file.proofs.ClassFits.{ClassesFit}
use Rattle.core_file.proofs.FitsTerm.{Agrees, term_held_fits}
use Rattle.core_file.proofs.Held.{ThreadsHeld}
use Rattle.core_file.proofs.Owned.{threads_apart}
use Rattle.core_file.proofs.PortsFit.{few_ports, port_held, endpoints_apart, ports_apart, lives_held}
use Rattle.core_file.proofs.ProcessHeld.{RegistersHeld, ProcessHeld}

threads_fit : (plain : Process) (scope : Scope) (taken : Taken) (threads : List tree.Term) → Agrees scope plain
    → ThreadsHeld scope taken threads → AllByRecursion ThreadIsFew threads
    → list_all (λ (thread : Thread). term_fits plain scope.widths thread.body) (map (thread_from scope) threads) ≡ true
threads_fit plain scope taken [] agrees held few = refl
threads_fit plain scope taken (thread ∷ threads) agrees held few =
    both_true _ _ (term_held_fits plain scope taken 0 thread agrees held.0 few.0.1) (threads_fit plain scope (taken_with taken thread) threads agrees held.2 few.1)

-- Registers.

abbrev names_of : List Register → List Name
names_of registers = map (λ (register : Register). register.name) registers

register_held : (before : List Name) (registers : List Register) → RegistersHeld before registers → (register : Register)
    → Has registers register
    → (is_good_name register.name ≡ true) × (is_width register.width ≡ true)
register_held before [] held register has = elim has [ ]
register_held before (first ∷ registers) held register (inl here) =
    (ap (λ (r : Register). is_good_name r.name) here ∙ held.0, ap (λ (r : Register). is_width r.width) here ∙ held.2)
register_held before (first ∷ registers) held register (inr has) =
    register_held (before ++ (first.name ∷ [])) registers held.4 register has

registers_new : (before : List Name) (registers : List Register) → RegistersHeld before registers
    → AllNew bytes_eq before (names_of registers)
registers_new before [] held = tt
registers_new before (register ∷ registers) held = (held.1, registers_new (before ++ (register.name ∷ [])) registers held.4)

pub registers_apart : (registers : List Register) → RegistersHeld [] registers → AllApart bytes_eq (names_of registers)
registers_apart registers held = new_apart bytes_eq names_turned [] (names_of registers) (registers_new [] registers held)

-- The plain process.

module _ (classes : List Class) (before : List Name) (written : tree.Process) (fit : ClassesFit classes) (held : ProcessHeld classes before written) (few : ItemIsFew (process written)) where
  abbrev made : Process
  made = core_process classes written

  agrees : Agrees (scope_of classes written) made
  agrees = record {
    ports = refl;
    registers = length-map written.registers (λ (register : Register). register.name)
        ∙ sym (length-map written.registers register_of);
    register_widths = λ r. refl;
    port_widths = λ m. refl;
  }

  ports_few : nat_le (length made.ports) most_ports ≡ true
  ports_few = let count = few_ports classes [] 0 written.endpoints held.endpoints (omega arith) in grind (arith, nat_tests)

  threads_few : nat_le (length made.threads) most_threads ≡ true
  threads_few =
      let count = few.2 in
      let same = length-map written.threads (thread_from (scope_of classes written)) in
      let within : length made.threads ≤ most_threads = omega arith in
      grind (arith, nat_tests)

  pub fits : process_fits made ≡ true
  fits =
      both_true _ _ held.good
      (both_true _ _ ports_few
      (both_true _ _ (all_from port_fits made.ports (λ port has. (port_held classes [] 0 written.endpoints fit held.endpoints port has).0))
      (both_true _ _ (no_twice is_same_port made.ports (ports_apart classes [] 0 written.endpoints fit held.endpoints (endpoints_apart classes 0 written.endpoints held.endpoints)))
      (both_true _ _ (lives_held classes made [] 0 written.endpoints fit refl refl)
      (both_true _ _ threads_few
      (threads_fit made (scope_of classes written) none_taken written.threads agrees held.threads few.3))))))

  pub owned : each_apart made made.threads ≡ true
  owned = threads_apart made (scope_of classes written) none_taken written.threads refl held.threads

  -- What the code makes of it.

  module _ (name : Name) (ports : List CorePort) (registers : List CoreReg) (threads : List CoreTerm) (stands : process_of name ports registers threads ≡ made) (is : IsMade name ports registers threads) where
    same_registers : map view.register_of registers ≡ map register_of written.registers
    same_registers = ap (λ (one : Process). one.registers) stands

    registers_few : nat_le (length registers) most_registers ≡ true
    registers_few =
        let count = few.1 in
        let same = ap length same_registers in
        let one = length-map registers view.register_of in
        let other = length-map written.registers register_of in
        let within : length registers ≤ most_registers = omega arith in
        grind (arith, nat_tests)

    register_good : (register : CoreReg) → Has registers register → register_fits register ≡ true
    register_good register has =
        let seen : Has (map register_of written.registers) (view.register_of register) =
        subst (λ all. Has all (view.register_of register)) same_registers (map_has view.register_of registers register has) in
        let found = has_map register_of written.registers (view.register_of register) seen in
        let good = register_held [] written.registers held.registers found.0 found.1 in
        let equal = is.resets register has in
        let reset : (register.reset.width == register.width) ≡ true = grind (arith, nat_tests) in
        both_true _ _ (ap (λ (r : core.Register). is_width r.width) found.2 ∙ good.1)
        (both_true _ _ reset (ap (λ (r : core.Register). is_good_name r.name) found.2 ∙ good.0))

    registers_once : has_no_twice is_same_register registers ≡ true
    registers_once =
        let name_of = λ (register : core.Register). register.name in
        let code_names : map name_of (map view.register_of registers) ≡ map (λ (register : CoreReg). register.name) registers = map_twice view.register_of name_of registers in
        let tree_names : map name_of (map register_of written.registers) ≡ names_of written.registers =
        map_twice register_of name_of written.registers in
        let same : names_of written.registers ≡ map (λ (register : CoreReg). register.name) registers = sym tree_names
        ∙ sym (ap (map name_of) same_registers) ∙ code_names in
        no_twice is_same_register registers
        (apart_items (λ (register : CoreReg). register.name) bytes_eq registers (subst (AllApart bytes_eq) same (registers_apart written.registers held.registers)))

    pub sized : is_sized name ports registers threads ≡ true
    sized =
        both_true _ _ (ap process_fits stands ∙ fits)
        (both_true _ _ registers_few
        (both_true _ _ (all_from register_fits registers register_good)
        (both_true _ _ registers_once
        (all_from (words_fit (widths_of (map view.port_of ports) (map view.register_of registers))) threads is.words))))

    pub owned_too : is_owned name ports registers threads ≡ true
    owned_too = ap (λ (one : Process). each_apart one one.threads) stands ∙ owned
