-- The process of a name.
--
-- The claim: bytes have one process of a name at most, or none, or no core file; and the ports of a process are within the limits.
-- The argument: bytes spell one file, and that has one core file; what its checks say of endpoints and classes is what is asked of
-- ports.
use Rattle.std.proofs.Common.{◌≡◌, ◌≢◌, ◌⊎◌, inl, inr, ◌∙◌, ◌⊎◌, inl, inr, ℕ, zero, suc, ◌+◌, ◌<◌, Bool, true, false, List, [], ◌∷◌, ◌++◌, length, get_or, map, drop, Some, None, refl, ap, sym, subst, arith}
use Rattle.std.specs.Prelude.{IsTrue, bytes_eq}
use Rattle.std.specs.List.{list_all}
use Rattle.anvil_tree.specs.Tree.{File, Name, class, process}
use Rattle.first_check.proofs.Fails.{all_hold}
use Rattle.channel_classes.specs.Classes.{Class, classes_of}
use Rattle.channel_classes.specs.ClassChecks.{checks_of_classes}
use Rattle.core_file.specs.CoreFile.{placed_of, core_file}
use Rattle.core_file.specs.CoreProcess.{ports_of}
use Rattle.core_file.specs.ProcessChecks.{checks_of_processes}
use Rattle.core_file.proofs.ClassFits.{ClassesFit, classes_fit}
use Rattle.core_file.proofs.PortsFit.{port_held}
use Rattle.core_file.proofs.ProcessHeld.{FileHeld, file_held}
use Rattle.core_term.specs.declared.process.CorePort.{CorePort}
use Rattle.core_term.specs.declared.process.CoreProc.{CoreProc}
use Rattle.core_term.specs.Process.{Port, Process, nth_port}
use Rattle.core_term.specs.ProcessView.{port_of}
use Rattle.core_term.specs.Lists.{Has}
use Rattle.core_term.specs.Sized.{port_fits}
use Rattle.std.proofs.lemmas.Option.{same_Some}
use Rattle.tool_answers.specs.declared.refusal.Refusal.{Refusal}
use Rattle.tool_answers.specs.declared.refusal.Refusal.TheVariants.{NoMemory}
use Rattle.checked_files.specs.Named.{process_named, IsProcessOf, HasProcess, HasNoProcess, IsProcessRefused, by_check, no_process}
use Rattle.checked_files.proofs.OneRefusal.{one_file}
use Rattle.checked_files.proofs.Ruled.{check_refused_once, accepted_or_refused, memory_or_refusal}

-- One process of a name.

pub same_process : (bytes name : List ℕ) (one other : Process) → IsProcessOf bytes name one → IsProcessOf bytes name other → one ≡ other
same_process bytes name one other is is_too =
    let same = one_file bytes is.file is_too.file is.accepted.spelled.spelled is_too.accepted.spelled.spelled in
    let named : Some one ≡ Some other = sym is.named ∙ (ap (λ file. process_named name (core_file (classes_of file) file)) same ∙ is_too.named) in
    cc

pub process_or_none : (bytes name : List ℕ) (one : Process) → IsProcessOf bytes name one → HasNoProcess bytes name → ⊥
process_or_none bytes name one is none =
    let same = one_file bytes is.file none.file is.accepted.spelled.spelled none.accepted.spelled.spelled in
    let named : Some one ≡ None = sym is.named ∙ (ap (λ file. process_named name (core_file (classes_of file) file)) same ∙ none.named) in
    cc

pub process_refused_once : (bytes name : List ℕ) (one other : Refusal) → IsProcessRefused bytes name one → IsProcessRefused bytes name other → one ≡ other
process_refused_once bytes name one other (by_check told first) (by_check found second) = check_refused_once bytes one other first second
process_refused_once bytes name one other (by_check told first) (no_process none) = absurd (accepted_or_refused bytes one first (record { file = none.file; is = none.accepted }))
process_refused_once bytes name one other (no_process none) (by_check found second) = absurd (accepted_or_refused bytes other second (record { file = none.file; is = none.accepted }))
process_refused_once bytes name one other (no_process none) (no_process none_too) = refl

pub process_or_refused : (bytes name : List ℕ) (refusal : Refusal) → IsProcessRefused bytes name refusal → HasProcess bytes name → ⊥
process_or_refused bytes name refusal (by_check told first) has = accepted_or_refused bytes refusal first (record { file = has.of_file.file; is = has.of_file.accepted })
process_or_refused bytes name refusal (no_process none) has = process_or_none bytes name has.process has.of_file none

-- What is told where a file is not accepted.

pub each_told : (bytes name : List ℕ) (found : Refusal) → (found ≢ NoMemory → IsProcessRefused bytes name found)
    → (refusal : Refusal) → IsProcessRefused bytes name refusal → (found ≡ refusal) ⊎ (found ≡ NoMemory)
each_told bytes name found told refusal refused = elim (memory_or_refusal found) [
  | inl memory ↦ inr memory
  | inr not_memory ↦ inl (process_refused_once bytes name found refusal (told not_memory) refused)
]

pub process_told : (bytes name : List ℕ) (found : Refusal) → (found ≢ NoMemory → IsProcessRefused bytes name found) → HasProcess bytes name → found ≡ NoMemory
process_told bytes name found told has = elim (memory_or_refusal found) [
  | inl memory ↦ memory
  | inr not_memory ↦ absurd (process_or_refused bytes name found (told not_memory) has)
]

-- Ports within the limits.

all_from : (test : Port → Bool) (ports : List Port) → ((port : Port) → Has ports port → test port ≡ true) → IsTrue (list_all test ports)
all_from test [] each = refl
all_from test (port ∷ ports) each = rw (each port (inl refl)) (all_from test ports (λ other has. each other (inr has)))

named_in : (classes : List Class) (before : List Name) (items : File) (name : List ℕ) (one : Process) → ClassesFit classes → FileHeld classes before items
    → process_named name (core_file classes items) ≡ Some one → IsTrue (list_all port_fits one.ports)
named_in classes before [] name one fit held is = absurd cc
named_in classes before (class c ∷ items) name one fit held is = named_in classes before items name one fit held is
named_in classes before (process written ∷ items) name one fit held is = by_case (bytes_eq written.name name) refl (λ later. named_in classes (before ++ (written.name ∷ [])) items name one fit held.1 later)
  where
    by_case : (b : Bool) → bytes_eq written.name name ≡ b → (process_named name (core_file classes items) ≡ Some one → IsTrue (list_all port_fits one.ports)) → IsTrue (list_all port_fits one.ports)
    by_case true test later =
        let same : ports_of classes 0 written.endpoints ≡ one.ports = ap (λ (made : Process). made.ports) (same_Some _ _ (rw test at is)) in
        subst (λ ports. IsTrue (list_all port_fits ports)) same (all_from port_fits (ports_of classes 0 written.endpoints) (λ port has. (port_held classes [] 0 written.endpoints fit held.0.endpoints port has).0))
    by_case false test later = later (rw test at is)

pub ports_fit : (bytes name : List ℕ) (one : Process) → IsProcessOf bytes name one → IsTrue (list_all port_fits one.ports)
ports_fit bytes name one is =
    named_in (classes_of is.file) [] is.file name one (classes_fit [] is.file (all_hold (checks_of_classes is.file) is.accepted.spelled.checked.classes))
    (file_held (classes_of is.file) [] is.file (all_hold (checks_of_processes (classes_of is.file) is.file) is.accepted.spelled.checked.processes)) is.named

-- A port of the code.
pub nth_is : (ports : List CorePort) (n : ℕ) (port : CorePort) → n < length ports → port ≡ get_or ports n port → nth_port (map port_of ports) n ≡ port_of port
nth_is [] n port inside is = absurd (omega arith)
nth_is (first ∷ ports) zero port inside is = ap port_of (sym is)
nth_is (first ∷ ports) (suc n) port inside is = nth_is ports n port (omega arith) is

-- The process that is found.

pub dropped : (procs : List CoreProc) (n : ℕ) (proc : CoreProc) → n < length procs → proc ≡ get_or procs n proc → drop n procs ≡ proc ∷ drop (n + 1) procs
dropped [] n proc inside is = absurd (omega arith)
dropped (first ∷ procs) zero proc inside is = ap (λ (one : CoreProc). one ∷ procs) (sym is)
dropped (first ∷ procs) (suc n) proc inside is =
    let later : suc (n + 1) ≡ suc n + 1 = omega arith in
    dropped procs n proc (omega arith) is ∙ ap (λ (k : ℕ). proc ∷ drop k (first ∷ procs)) later

module _ (name : List ℕ) (procs : List CoreProc) (n : ℕ) (proc : CoreProc) (inside : n < length procs) (is : proc ≡ get_or procs n proc)
    (left : process_named name (map placed_of (drop n procs)) ≡ process_named name (map placed_of procs)) where
  at_head : process_named name (placed_of proc ∷ map placed_of (drop (n + 1) procs)) ≡ process_named name (map placed_of procs)
  at_head = ap (λ (all : List CoreProc). process_named name (map placed_of all)) (sym (dropped procs n proc inside is)) ∙ left

  pub found_here : bytes_eq proc.name name ≡ true → process_named name (map placed_of procs) ≡ Some (placed_of proc).process
  found_here test = sym at_head ∙ rw test refl

  pub not_here : bytes_eq proc.name name ≡ false → process_named name (map placed_of (drop (n + 1) procs)) ≡ process_named name (map placed_of procs)
  not_here test = let there = at_head in rw test at there

pub same_item : (procs : List CoreProc) (n : ℕ) (proc default : CoreProc) → n < length procs → proc ≡ get_or procs n proc → get_or procs n default ≡ proc
same_item [] n proc default inside is = absurd (omega arith)
same_item (first ∷ procs) zero proc default inside is = sym is
same_item (first ∷ procs) (suc n) proc default inside is = same_item procs n proc default (omega arith) is

-- a list with a place has an item
pub item_of : (procs : List CoreProc) (n : ℕ) → n < length procs → CoreProc
item_of [] n inside = absurd (omega (arith, inside))
item_of (first ∷ procs) n inside = first
