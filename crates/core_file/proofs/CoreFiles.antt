-- A tree has a core file exactly where no check of its processes fails, and one at most: the lemmas on terms, thread
-- by thread and process by process.
use Rattle.std.proofs.Common.{◌≡◌, ◌∙◌, ℕ, refl, sym, ap, subst, List, [], ◌∷◌, ◌++◌, map}
use Rattle.std.specs.List.{AllZip}
use Rattle.anvil_tree.specs.Tree as tree
use Rattle.anvil_tree.specs.Tree.{Name, File, class, process}
use Rattle.core_term.specs.Numbering.{size}
use Rattle.core_term.specs.Process as core
use Rattle.core_term.specs.Process.{Port, Process, Thread}
use Rattle.core_term.specs.Term.{Term}
use Rattle.first_check.proofs.Fails.{all_hold, none_refused}
use Rattle.channel_classes.specs.Classes.{Class, classes_of}
use Rattle.channel_classes.specs.ClassChecks.{checks_of_classes}
use Rattle.core_file.specs.Scope.{Scope}
use Rattle.core_file.specs.CoreTerm.{core_term}
use Rattle.core_file.specs.CoreProcess.{ports_of, register_of, scope_of, thread_from, core_process}
use Rattle.core_file.specs.CoreFile.{Placed, placed_process, core_file}
use Rattle.core_file.specs.CoreFileLaws.{EachHasCoreFile, CoreFileIsOne}
use Rattle.core_file.specs.IsCoreFile.{IsThreadOf, IsProcessOf, processes_of}
use Rattle.core_file.specs.ProcessChecks.{checks_of_processes}
use Rattle.core_file.specs.TermChecks.{Taken}
use Rattle.core_file.specs.ThreadChecks.{none_taken, taken_with}
use Rattle.core_file.proofs.ClassFits.{ClassesFit, classes_fit}
use Rattle.core_file.proofs.CoreTerms.{IsOnce, term_stands, term_one}
use Rattle.core_file.proofs.Held.{TermHeld, TailHeld, ThreadsHeld}
use Rattle.core_file.proofs.NumberedBodies.{Covers, nothing_covered, numbered}
use Rattle.core_file.proofs.PortsFit.{endpoints_apart, ports_apart}
use Rattle.core_file.proofs.ProcessFits.{registers_apart}
use Rattle.core_file.proofs.ProcessHeld.{ProcessHeld, FileHeld, file_held}
use Rattle.core_file.proofs.TailBodies.{tailed}

-- There is one.

thread_stands : (scope : Scope) (taken : Taken) (thread : tree.Term) → scope.variables ≡ [] → TermHeld scope taken 0 thread
    → TailHeld thread → IsThreadOf scope thread (thread_from scope thread)
thread_stands scope taken thread none held tail =
    let covers = subst (λ variables. Covers variables [] 0) (sym none) (nothing_covered 0) in
    record {
      names = term_stands scope taken 0 thread held;
      sites = numbered scope taken [] 0 thread covers held;
      tail = tailed scope taken [] 0 thread covers held tail;
      count = refl;
    }

threads_stand : (scope : Scope) (taken : Taken) (threads : List tree.Term) → scope.variables ≡ []
    → ThreadsHeld scope taken threads
    → AllZip (IsThreadOf scope) threads (map (thread_from scope) threads)
threads_stand scope taken [] none held = tt
threads_stand scope taken (thread ∷ threads) none held =
    (thread_stands scope taken thread none held.0 held.1, threads_stand scope (taken_with taken thread) threads none held.2)

process_stands : (classes : List Class) (before : List Name) (written : tree.Process) → ProcessHeld classes before written
    → IsProcessOf classes written (placed_process classes written)
process_stands classes before written held = record {
  name = refl;
  ports = refl;
  registers = refl;
  threads = threads_stand (scope_of classes written) none_taken written.threads refl held.threads;
  places = refl;
}

processes_stand : (classes : List Class) (before : List Name) (file : File) → FileHeld classes before file
    → AllZip (IsProcessOf classes) (processes_of file) (core_file classes file)
processes_stand classes before [] held = tt
processes_stand classes before (class c ∷ items) held = processes_stand classes before items held
processes_stand classes before (process written ∷ items) held =
    (process_stands classes before written held.0, processes_stand classes (before ++ (written.name ∷ [])) items held.1)

pub each_has_core_file : EachHasCoreFile
each_has_core_file file none =
    let hold = all_hold (checks_of_processes (classes_of file) file) none in
    record { hold = hold; processes = processes_stand (classes_of file) [] file (file_held (classes_of file) [] file hold) }

-- There is no other.

abbrev thread_with : Term → ℕ → Thread
thread_with body count = record { body = body; count = count }

abbrev process_with : Name → List Port → List core.Register → List Thread → Process
process_with name ports registers threads = record { name = name; ports = ports; registers = registers; threads = threads }

abbrev placed_with : Process → List (List ℕ) → Placed
placed_with made places = record { process = made; places = places }

thread_one : (scope : Scope) (written : tree.Term) (thread : Thread) → IsOnce scope → IsThreadOf scope written thread
    → thread ≡ thread_from scope written
thread_one scope written thread once stands =
    let same : thread.body ≡ core_term scope 0 written = term_one scope 0 [] written thread.body once stands.names stands.sites in
    let counted : thread.count ≡ size (core_term scope 0 written) = stands.count ∙ ap size same in
    ap (λ body. thread_with body thread.count) same ∙ ap (thread_with (core_term scope 0 written)) counted

threads_one : (scope : Scope) (written : List tree.Term) (threads : List Thread) → IsOnce scope
    → AllZip (IsThreadOf scope) written threads → threads ≡ map (thread_from scope) written
threads_one scope [] [] once stands = refl
threads_one scope [] (thread ∷ threads) once stands = elim stands [ ]
threads_one scope (written ∷ rest) [] once stands = elim stands [ ]
threads_one scope (written ∷ rest) (thread ∷ threads) once stands =
    rw (thread_one scope written thread once stands.0, threads_one scope rest threads once stands.1) refl

process_one : (classes : List Class) (before : List Name) (written : tree.Process) (placed : Placed) → ClassesFit classes
    → ProcessHeld classes before written → IsProcessOf classes written placed
    → placed ≡ placed_process classes written
process_one classes before written placed fit held stands =
    let scope = scope_of classes written in
    let once : IsOnce scope = record {
      registers = registers_apart written.registers held.registers;
      ports = ports_apart classes [] 0 written.endpoints fit held.endpoints (endpoints_apart classes 0 written.endpoints held.endpoints);
    } in
    let one = placed.process in
    let threads = threads_one scope written.threads one.threads once stands.threads in
    let named : process_with one.name one.ports one.registers one.threads ≡ process_with written.name one.ports one.registers one.threads =
    ap (λ name. process_with name one.ports one.registers one.threads) stands.name in
    let ported : process_with written.name one.ports one.registers one.threads ≡ process_with written.name (ports_of classes 0 written.endpoints) one.registers one.threads =
    ap (λ ports. process_with written.name ports one.registers one.threads) stands.ports in
    let registered : process_with written.name (ports_of classes 0 written.endpoints) one.registers one.threads ≡ process_with written.name (ports_of classes 0 written.endpoints) (map register_of written.registers) one.threads =
    ap (λ registers. process_with written.name (ports_of classes 0 written.endpoints) registers one.threads) stands.registers in
    let threaded : process_with written.name (ports_of classes 0 written.endpoints) (map register_of written.registers) one.threads ≡ core_process classes written =
    ap (process_with written.name (ports_of classes 0 written.endpoints) (map register_of written.registers)) threads in
    let same : one ≡ core_process classes written = named ∙ ported ∙ registered ∙ threaded in
    ap (λ made. placed_with made placed.places) same ∙ ap (placed_with (core_process classes written)) stands.places

processes_one : (classes : List Class) (before : List Name) (file : File) (placed : List Placed) → ClassesFit classes
    → FileHeld classes before file
    → AllZip (IsProcessOf classes) (processes_of file) placed → placed ≡ core_file classes file
processes_one classes before [] [] fit held stands = refl
processes_one classes before [] (placed ∷ rest) fit held stands = elim stands [ ]
processes_one classes before (class c ∷ items) placed fit held stands = processes_one classes before items placed fit held stands
processes_one classes before (process written ∷ items) [] fit held stands = elim stands [ ]
processes_one classes before (process written ∷ items) (placed ∷ rest) fit held stands =
    ap (λ first. first ∷ rest) (process_one classes before written placed fit held.0 stands.0)
    ∙ ap (λ others. placed_process classes written ∷ others) (processes_one classes (before
    ++ (written.name ∷ [])) items rest fit held.1 stands.1)

pub core_file_is_one : CoreFileIsOne
core_file_is_one file right core stands =
    let checks = checks_of_processes (classes_of file) file in
    let fit = classes_fit [] file (all_hold (checks_of_classes file) right) in (
      none_refused checks stands.hold,
      processes_one (classes_of file) [] file core fit (file_held (classes_of file) [] file stands.hold) stands.processes,
    )
