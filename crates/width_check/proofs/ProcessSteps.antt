-- A process from what was read of its endpoints, its registers and its threads; and where it fails.
use Rattle.std.proofs.Common.{◌≡◌, ◌∙◌, ◌+◌, ◌≤◌, ℕ, Bool, true, false, not, cond, List, [], ◌∷◌, ◌++◌, None, length, map, refl, ap, sym, subst, inl, inr, arith, suc}
use Rattle.std.specs.Prelude.{IsTrue}
use Rattle.std.specs.List.{AllByRecursion, position_or_len}
use Rattle.anvil_lexer.specs.GoodName.{is_good_name}
use Rattle.anvil_tree.specs.declared.file.Endpoint.{Endpoint}
use Rattle.anvil_tree.specs.declared.file.Message.{Message}
use Rattle.anvil_tree.specs.declared.file.Register.{Register}
use Rattle.anvil_tree.specs.declared.file.LifeText.{LifeText}
use Rattle.anvil_tree.specs.declared.file.LifeText.TheVariants as text
use Rattle.anvil_tree.specs.Tree as tree
use Rattle.anvil_tree.specs.Tree.{Name, File, class, process}
use Rattle.anvil_tree.specs.Few.{ItemIsFew, most_parts}
use Rattle.anvil_tree.specs.Order.{acts_of_term}
use Rattle.core_term.specs.declared.process.CorePort.{CorePort}
use Rattle.core_term.specs.declared.process.CoreReg.{CoreReg}
use Rattle.core_term.specs.declared.term.CoreTerm.{CoreTerm}
use Rattle.core_term.specs.Process as plain
use Rattle.core_term.specs.ProcessView as core
use Rattle.core_term.specs.Sized.{is_sized, is_owned}
use Rattle.core_term.specs.View.{places_of}
use Rattle.first_check.specs.Check.{first_refusal}
use Rattle.first_check.proofs.Walks.{passes, stops}
use Rattle.first_check.proofs.Fails.{all_hold}
use Rattle.channel_classes.specs.Classes.{Class, is_named, life_of, message_of, classes_of}
use Rattle.channel_classes.specs.ClassChecks.{checks_of_classes}
use Rattle.core_file.specs.Scope.{Scope, is_among}
use Rattle.core_file.specs.CoreFile.{Placed, placed_process}
use Rattle.core_file.specs.CoreProcess.{register_of, ports_of, scope_of, thread_from, core_process}
use Rattle.core_file.specs.Laws.{IsMade}
use Rattle.core_file.specs.ThreadChecks.{none_taken, threads_checks}
use Rattle.core_file.specs.ProcessChecks.{name_checks, endpoints_checks, registers_checks, process_checks}
use Rattle.core_file.specs.Refused.{Checks}
use Rattle.core_file.specs.declared.error.NameErr.{NameErr}
use Rattle.core_file.proofs.ClassFits.{ClassesFit, classes_fit}
use Rattle.core_file.proofs.ProcessHeld.{process_held}
use Rattle.core_file.proofs.ProcessFits.{sized, owned_too}
use Rattle.width_check.specs.ReadEndpoints.{LifeWithin, EndsWithin, EndpointsRead, EndpointsFail}
use Rattle.width_check.specs.ReadProcess.{ClassesPass, ProcessFails}
use Rattle.width_check.specs.ReadRegisters.{RegistersRead, RegistersFail}
use Rattle.width_check.specs.ReadThreads.{ThreadsRead, ThreadsFail}

-- Ending messages have small numbers.

place_within : {X : Type 0} (test : X → Bool) (items : List X) → position_or_len test items ≤ length items
place_within test [] = omega arith
place_within test (item ∷ items) = by_head (test item) (place_within test items)
  where
    by_head : {more count : ℕ} (here : Bool) → more ≤ count → cond (not here) (1 + more) 0 ≤ suc count
    by_head true within = omega arith
    by_head false within = omega arith

life_within : (all : List Message) (life : LifeText) → length all ≤ most_parts → LifeWithin (life_of all life)
life_within all (text.Cycles count) few = tt
life_within all (text.Until name) few = let place = place_within (is_named name) all in omega arith

messages_within : (all messages : List Message) → length all ≤ most_parts → AllByRecursion EndsWithin (map (message_of all) messages)
messages_within all [] few = tt
messages_within all (message ∷ messages) few = (life_within all message.life few, messages_within all messages few)

file_within : (file : File) → AllByRecursion ItemIsFew file → AllByRecursion (λ (known : Class). AllByRecursion EndsWithin known.messages) (classes_of file)
file_within [] few = tt
file_within (class c ∷ items) few = (messages_within c.messages c.messages few.0, file_within items few.1)
file_within (process p ∷ items) few = file_within items few.1

pub classes_within : (classes : List Class) → ClassesPass classes → AllByRecursion (λ (known : Class). AllByRecursion EndsWithin known.messages) classes
classes_within classes pass =
    subst (AllByRecursion (λ (known : Class). AllByRecursion EndsWithin known.messages)) (sym pass.are) (file_within pass.file pass.few.each)

-- The scope of the tables is that of the process.

abbrev scope_from : List Name → List plain.Port → List Name → List plain.Register → Scope
scope_from endpoints ports names registers = record { endpoints = endpoints; ports = ports; registers = names; variables = []; widths = core.widths_of ports registers }

abbrev pub known_scope : List Name → List CorePort → List CoreReg → Scope
known_scope endpoints ports registers = scope_from endpoints (map core.port_of ports) (map (λ (r : CoreReg). r.name) registers) (map core.register_of registers)

code_names : (registers : List CoreReg) → map (λ (r : CoreReg). r.name) registers ≡ map (λ (r : plain.Register). r.name) (map core.register_of registers)
code_names [] = refl
code_names (first ∷ registers) = ap (λ l. first.name ∷ l) (code_names registers)

tree_names : (registers : List Register) → map (λ (r : Register). r.name) registers ≡ map (λ (r : plain.Register). r.name) (map register_of registers)
tree_names [] = refl
tree_names (first ∷ registers) = ap (λ l. first.name ∷ l) (tree_names registers)

scope_is : (classes : List Class) (p : tree.Process) (endpoints : List Name) (ports : List CorePort) (registers : List CoreReg)
    → EndpointsRead classes p.endpoints endpoints ports → RegistersRead p.registers registers → known_scope endpoints ports registers ≡ scope_of classes p
scope_is classes p endpoints ports registers ends regs =
    let names = code_names registers ∙ ap (map (λ (r : plain.Register). r.name)) regs.same ∙ sym (tree_names p.registers) in
    ap (λ e. scope_from e (map core.port_of ports) (map (λ (r : CoreReg). r.name) registers) (map core.register_of registers)) ends.named
    ∙ ap (λ q. scope_from (map (λ (e : Endpoint). e.name) p.endpoints) q (map (λ (r : CoreReg). r.name) registers) (map core.register_of registers)) ends.same
    ∙ ap (λ n. scope_from (map (λ (e : Endpoint). e.name) p.endpoints) (ports_of classes 0 p.endpoints) n (map core.register_of registers)) names
    ∙ ap (λ r. scope_from (map (λ (e : Endpoint). e.name) p.endpoints) (ports_of classes 0 p.endpoints) (map (λ (q : Register). q.name) p.registers) r) regs.same

-- Checks.

abbrev threads_part : List Class → tree.Process → Checks
threads_part classes p = threads_checks (scope_of classes p) none_taken p.threads

abbrev registers_part : List Class → tree.Process → Checks
registers_part classes p = registers_checks [] p.registers ++ threads_part classes p

abbrev endpoints_part : List Class → tree.Process → Checks
endpoints_part classes p = endpoints_checks classes [] 0 p.endpoints ++ registers_part classes p

names_pass : (names : List Name) (at : ℕ) (name : Name) (others : Checks) → is_good_name name ≡ true → is_among names name ≡ false
    → first_refusal (name_checks names at name ++ others) ≡ first_refusal others
names_pass names at name others good fresh = rw (good, fresh) refl

pub endpoints_stop : (classes : List Class) (names : List Name) (p : tree.Process) (fault : NameErr) → is_good_name p.name ≡ true → is_among names p.name ≡ false
    → EndpointsFail classes p.endpoints fault → ProcessFails classes names p fault
endpoints_stop classes names p fault good fresh fails = record {
  why = elim (fails.why) [ inl none ↦ inl none | inr some ↦ inr (names_pass names p.at p.name (endpoints_part classes p) good fresh ∙ stops (endpoints_checks classes [] 0 p.endpoints) (registers_part classes p) fault some) ];
}

pub registers_stop : (classes : List Class) (names : List Name) (p : tree.Process) (endpoints : List Name) (ports : List CorePort) (fault : NameErr)
    → is_good_name p.name ≡ true → is_among names p.name ≡ false → EndpointsRead classes p.endpoints endpoints ports
    → RegistersFail p.registers fault → ProcessFails classes names p fault
registers_stop classes names p endpoints ports fault good fresh ends fails = record {
  why = elim (fails.why) [
    | inl none ↦ inl none
    | inr some ↦ inr (names_pass names p.at p.name (endpoints_part classes p) good fresh ∙ passes (endpoints_checks classes [] 0 p.endpoints) (registers_part classes p) ends.passes
        ∙ stops (registers_checks [] p.registers) (threads_part classes p) fault some)
  ];
}

pub threads_stop : (classes : List Class) (names : List Name) (p : tree.Process) (endpoints : List Name) (ports : List CorePort) (registers : List CoreReg) (fault : NameErr)
    → is_good_name p.name ≡ true → is_among names p.name ≡ false → EndpointsRead classes p.endpoints endpoints ports → RegistersRead p.registers registers
    → ThreadsFail (known_scope endpoints ports registers) p.threads fault → ProcessFails classes names p fault
threads_stop classes names p endpoints ports registers fault good fresh ends regs fails = record {
  why = elim (fails.why) [
    | inl none ↦ inl none
    | inr some ↦ inr (names_pass names p.at p.name (endpoints_part classes p) good fresh ∙ passes (endpoints_checks classes [] 0 p.endpoints) (registers_part classes p) ends.passes
        ∙ passes (registers_checks [] p.registers) (threads_part classes p) regs.passes
        ∙ ap (λ s. first_refusal (threads_checks s none_taken p.threads)) (sym (scope_is classes p endpoints ports registers ends regs)) ∙ some)
  ];
}

-- What was read of a process.
pub record PartsRead (classes : List Class) (names : List Name) (p : tree.Process) (name : Name) (ports : List CorePort) (registers : List CoreReg) (threads : List CoreTerm) : Type 0 where
  pub passes : first_refusal (process_checks classes names p) ≡ None
  pub same : core.process_of name ports registers threads ≡ core_process classes p
  pub places : map places_of threads ≡ map acts_of_term p.threads
  pub made : IsMade name ports registers threads

pub parts_read : (classes : List Class) (names : List Name) (p : tree.Process) (name : Name) (endpoints : List Name) (ports : List CorePort) (registers : List CoreReg)
    (threads : List CoreTerm) → is_good_name p.name ≡ true → is_among names p.name ≡ false → name ≡ p.name
    → EndpointsRead classes p.endpoints endpoints ports → RegistersRead p.registers registers
    → ThreadsRead (known_scope endpoints ports registers) p.threads threads → PartsRead classes names p name ports registers threads
parts_read classes names p name endpoints ports registers threads good fresh named ends regs walk =
    let scope = scope_is classes p endpoints ports registers ends regs in
    let made : Name → List plain.Port → List plain.Register → List plain.Thread → plain.Process =
    λ n q r t. record { name = n; ports = q; registers = r; threads = t } in
    record {
      passes = names_pass names p.at p.name (endpoints_part classes p) good fresh ∙ passes (endpoints_checks classes [] 0 p.endpoints) (registers_part classes p) ends.passes
          ∙ passes (registers_checks [] p.registers) (threads_part classes p) regs.passes
          ∙ ap (λ s. first_refusal (threads_checks s none_taken p.threads)) (sym scope) ∙ walk.passes;
      same =
          ap (λ n. made n (map core.port_of ports) (map core.register_of registers) (map (core.thread_of (core.widths_of (map core.port_of ports) (map core.register_of registers))) threads)) named
          ∙ ap (λ t. made p.name (map core.port_of ports) (map core.register_of registers) t) (walk.same ∙ ap (λ s. map (thread_from s) p.threads) scope)
          ∙ ap (λ q. made p.name q (map core.register_of registers) (map (thread_from (scope_of classes p)) p.threads)) ends.same
          ∙ ap (λ r. made p.name (ports_of classes 0 p.endpoints) r (map (thread_from (scope_of classes p)) p.threads)) regs.same;
      places = walk.places;
      made = record { resets = regs.resets; words = walk.words };
    }

module _ (classes : List Class) (names : List Name) (p : tree.Process) (name : Name) (ports : List CorePort) (registers : List CoreReg) (threads : List CoreTerm)
    (pass : ClassesPass classes) (few : ItemIsFew (process p)) (read : PartsRead classes names p name ports registers threads) where
  fit : ClassesFit classes
  fit = subst ClassesFit (sym pass.are) (classes_fit [] pass.file (all_hold (checks_of_classes pass.file) pass.pass))

  pub is_sized_of : IsTrue (is_sized name ports registers threads)
  is_sized_of = sized classes names p fit (process_held classes names p (all_hold (process_checks classes names p) read.passes)) few name ports registers threads read.same read.made

  pub is_owned_of : IsTrue (is_owned name ports registers threads)
  is_owned_of = owned_too classes names p fit (process_held classes names p (all_hold (process_checks classes names p) read.passes)) few name ports registers threads read.same read.made

pub placed_is : (classes : List Class) (names : List Name) (p : tree.Process) (name : Name) (ports : List CorePort) (registers : List CoreReg) (threads : List CoreTerm)
    (placed : Placed) → placed ≡ record { process = core.process_of name ports registers threads; places = map places_of threads }
    → PartsRead classes names p name ports registers threads → placed ≡ placed_process classes p
placed_is classes names p name ports registers threads placed is read =
    let made : plain.Process → List (List ℕ) → Placed = λ q l. record { process = q; places = l } in
    is ∙ ap (λ q. made q (map places_of threads)) read.same ∙ ap (made (core_process classes p)) read.places
