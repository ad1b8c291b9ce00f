-- The laws over whole files: what stands of each process and of each thread of a file that passes.
use Rattle.std.proofs.Common.{◌≡◌, arith, refl, sym, ap, subst, List, [], ◌∷◌, ◌++◌, length, map, bytes_eq, inl, inr}
use Rattle.std.specs.List.{AllByRecursion}
use Rattle.anvil_tree.specs.Tree as tree
use Rattle.anvil_tree.specs.Tree.{Name, Item, File, class, process}
use Rattle.anvil_tree.specs.Few.{ThreadIsFew, ItemIsFew, process_count}
use Rattle.anvil_tree.specs.Order.{NeverFall, acts_of_term, ActsNeverFallIn}
use Rattle.core_term.specs.Lists.{Has}
use Rattle.channel_classes.specs.Classes.{Class, classes_of}
use Rattle.channel_classes.specs.ClassChecks.{checks_of_classes}
use Rattle.first_check.proofs.Fails.{all_hold}
use Rattle.core_file.specs.Scope.{Scope}
use Rattle.core_file.specs.CoreFile.{Placed, core_file}
use Rattle.core_file.specs.CoreProcess.{scope_of}
use Rattle.core_file.specs.ProcessChecks.{checks_of_processes}
use Rattle.core_file.specs.TermChecks.{Taken}
use Rattle.core_file.specs.ThreadChecks.{none_taken, taken_with}
use Rattle.core_file.specs.Passes.{Passes}
use Rattle.core_file.specs.Laws.{ThreadsHaveBodies, ProcessesAreSizedAndOwned, ProcessesAreFewAndDiffer}
use Rattle.core_file.proofs.Apart.{names_turned, no_twice, AllNew, new_apart}
use Rattle.core_file.proofs.ClassFits.{ClassesFit, classes_fit}
use Rattle.core_file.proofs.Held.{TermHeld, TailHeld, ThreadsHeld}
use Rattle.core_file.proofs.ProcessFits.{sized, owned_too}
use Rattle.core_file.proofs.ProcessHeld.{ProcessHeld, FileHeld, file_held}
use Rattle.core_file.proofs.ThreadBody.{is_body}

-- What a list says of each of its items.

pub each_of : {X : Type 0} (P : X → Type 0) (items : List X) → AllByRecursion P items → (item : X) → Has items item → P item
each_of P [] each item has = elim has [ ]
each_of P (first ∷ items) each item (inl here) = subst P (sym here) each.0
each_of P (first ∷ items) each item (inr has) = each_of P items each.1 item has

abbrev process_or : tree.Process → Item → tree.Process
process_or other (class c) = other
process_or other (process written) = written

-- a process stands in the file after some names
pub process_in : (classes : List Class) (before : List Name) (file : File) → FileHeld classes before file
    → (written : tree.Process) → Has file (process written)
    → (earlier : List Name) × ProcessHeld classes earlier written
process_in classes before [] held written has = elim has [ ]
process_in classes before (class c ∷ items) held written (inl here) = absurd cc
process_in classes before (class c ∷ items) held written (inr has) = process_in classes before items held written has
process_in classes before (process q ∷ items) held written (inl here) =
    let same : written ≡ q = ap (process_or written) here in
    (before, subst (ProcessHeld classes before) (sym same) held.0)
process_in classes before (process q ∷ items) held written (inr has) =
    process_in classes (before ++ (q.name ∷ [])) items held.1 written has

-- a thread of a process, after what earlier ones took
pub thread_in : (scope : Scope) (taken : Taken) (threads : List tree.Term) → ThreadsHeld scope taken threads
    → (thread : tree.Term) → Has threads thread
    → (earlier : Taken) × TermHeld scope earlier 0 thread × TailHeld thread
thread_in scope taken [] held thread has = elim has [ ]
thread_in scope taken (first ∷ threads) held thread (inl here) =
    (taken, subst (TermHeld scope taken 0) (sym here) held.0, subst TailHeld (sym here) held.1)
thread_in scope taken (first ∷ threads) held thread (inr has) = thread_in scope (taken_with taken first) threads held.2 thread has

-- The laws.

fits_of : (file : File) → Passes file → ClassesFit (classes_of file)
fits_of file passes = classes_fit [] file (all_hold (checks_of_classes file) passes.classes)

held_of : (file : File) → Passes file → FileHeld (classes_of file) [] file
held_of file passes = file_held (classes_of file) [] file (all_hold (checks_of_processes (classes_of file) file) passes.processes)

pub threads_have_bodies : ThreadsHaveBodies
threads_have_bodies file passes written has thread own widths body is places =
    let held = process_in (classes_of file) [] file (held_of file passes) written has in
    let few = each_of ItemIsFew file passes.few.each (process written) has in
    let order = each_of ActsNeverFallIn file passes.in_order (process written) has in
    let walk = thread_in (scope_of (classes_of file) written) none_taken written.threads held.1.threads thread own in
    is_body (scope_of (classes_of file) written) walk.0 thread widths body refl walk.1 walk.2
    (each_of ThreadIsFew written.threads few.3 thread own).0
    (each_of (λ term. NeverFall (acts_of_term term)) written.threads order thread own) is places

pub processes_are_sized_and_owned : ProcessesAreSizedAndOwned
processes_are_sized_and_owned file passes written has name ports registers threads stands is =
    let held = process_in (classes_of file) [] file (held_of file passes) written has in
    let few = each_of ItemIsFew file passes.few.each (process written) has in
    let fit = fits_of file passes in (
      sized (classes_of file) held.0 written fit held.1 few name ports registers threads stands is,
      owned_too (classes_of file) held.0 written fit held.1 few name ports registers threads stands is,
    )

abbrev names_of : List Placed → List Name
names_of processes = map (λ (placed : Placed). placed.process.name) processes

counted : (classes : List Class) (file : File) → length (core_file classes file) ≡ process_count file
counted classes [] = refl
counted classes (class c ∷ items) = counted classes items
counted classes (process written ∷ items) = let rest = counted classes items in omega arith

processes_new : (classes : List Class) (before : List Name) (file : File) → FileHeld classes before file
    → AllNew bytes_eq before (names_of (core_file classes file))
processes_new classes before [] held = tt
processes_new classes before (class c ∷ items) held = processes_new classes before items held
processes_new classes before (process written ∷ items) held =
    (held.0.new, processes_new classes (before ++ (written.name ∷ [])) items held.1)

pub processes_are_few_and_differ : ProcessesAreFewAndDiffer
processes_are_few_and_differ file passes =
    let few = passes.few.processes in
    let count = counted (classes_of file) file in
    let names = names_of (core_file (classes_of file) file) in (
      omega arith,
      no_twice bytes_eq names (new_apart bytes_eq names_turned [] names (processes_new (classes_of file) [] file (held_of file passes))),
    )
