-- From the first violation of each thread that of a process, and from those that of a file.
use Rattle.std.proofs.Common.{◌≡◌, ℕ, ◌+◌, ◌<◌, ◌≤◌, ◌⊎◌, inl, inr, arith, refl, sym, ◌∙◌, ap, subst, true, nat_le, List, [], ◌∷◌, map, length, zero, suc, Some, slice_get}
use Rattle.std.proofs.lemmas.Bool.Decides.{nat_tests}
use Rattle.core_term.specs.declared.process.CoreProc.{CoreProc}
use Rattle.core_term.specs.declared.rules.Violation.{Violation}
use Rattle.core_term.specs.Limits.{most_threads, most_ports}
use Rattle.core_term.specs.Sized.{process_fits, port_fits, is_same_port, lives_fit}
use Rattle.core_term.specs.Names.{is_good_name, has_no_twice}
use Rattle.std.specs.List.{list_all}
use Rattle.core_term.specs.Process.{Process, Thread, IsThread}
use Rattle.core_term.specs.AcceptedFile.{process_in, file_of}
use Rattle.core_term.specs.Rules.{Meets, KeepsDemands}
use Rattle.core_term.specs.Violations.{IsNth}
use Rattle.run_laws.specs.Accepted.{AllKeepDemands}
use Rattle.demand_checks.specs.Thread.{nth_thread, body_of}
use Rattle.send_check.proofs.Truth.{and_first, and_second}
use Rattle.timing_check.specs.OfThread.{IsFirstOfAll}
use Rattle.timing_check.specs.OfFile.{ThreadKeeps, ProcessKeeps, IsFirstInProcess}

-- the thread of a number
pub thread_is : (threads : List Thread) (j : ℕ) (thread : Thread) → IsThread threads j thread → nth_thread threads j ≡ thread
thread_is [] j thread is = elim is [ ]
thread_is (first ∷ threads) zero thread is = is
thread_is (first ∷ threads) (suc j) thread is = thread_is threads j thread is

pub thread_there : (threads : List Thread) (j : ℕ) → j < length threads → IsThread threads j (nth_thread threads j)
thread_there [] j inside = absurd (omega arith)
thread_there (first ∷ threads) zero inside = refl
thread_there (first ∷ threads) (suc j) inside = thread_there threads j (omega arith)

pub thread_below : (threads : List Thread) (j : ℕ) (thread : Thread) → IsThread threads j thread → j < length threads
thread_below [] j thread is = elim is [ ]
thread_below (first ∷ threads) zero thread is = omega arith
thread_below (first ∷ threads) (suc j) thread is = let rest = thread_below threads j thread is in omega arith

length_map : {A B : Type 0} (f : A → B) (items : List A) → length (map f items) ≡ length items
length_map f [] = refl
length_map f (item ∷ items) = let rest = length_map f items in omega arith

pub thread_count : (proc : CoreProc) → length (process_in proc).threads ≡ length proc.threads.items
thread_count proc = length_map _ proc.threads.items

le_of : (a b : ℕ) → nat_le a b ≡ true → a ≤ b
le_of a b is = grind (arith, nat_tests)

-- a sized process has at most 16 threads
few_in : (p : Process) → process_fits p ≡ true → length p.threads ≤ 16
few_in p fits =
    let after_name = and_second (is_good_name p.name) _ fits in
    let after_count = and_second (nat_le (length p.ports) most_ports) _ after_name in
    let after_ports = and_second (list_all port_fits p.ports) _ after_count in
    let after_names = and_second (has_no_twice is_same_port p.ports) _ after_ports in
    let after_lives = and_second (lives_fit p 0 p.ports) _ after_names in
    le_of (length p.threads) most_threads (and_first (nat_le (length p.threads) most_threads) _ after_lives)

pub few_threads : (proc : CoreProc) → length proc.threads.items ≤ 16
few_threads proc =
    let same = thread_count proc in
    let few = few_in (process_in proc) (and_first (process_fits (process_in proc)) _ proc.sized) in
    omega arith

two_ways : (k n : ℕ) → k < n + 1 → (k < n) ⊎ (k ≡ n)
two_ways k n within = grind arith

-- one thread more keeps its demands
pub next_thread : (proc : CoreProc) (to : ℕ) → ((j : ℕ) → j < to → ThreadKeeps (process_in proc) j) → Meets (process_in proc) to (body_of proc to)
    → (j : ℕ) → j < to + 1 → ThreadKeeps (process_in proc) j
next_thread proc to before here j within thread is = go (two_ways j to within)
  where
    go : (j < to) ⊎ (j ≡ to) → Meets (process_in proc) j thread.body
    go (inl earlier) = before j earlier thread is
    go (inr at) =
        let Keeps : ℕ → Type 0 = λ i. Meets (process_in proc) i (body_of proc i) in
        let Body : Thread → Type 0 = λ t. Meets (process_in proc) j t.body in
        subst Body (thread_is (process_in proc).threads j thread is) (subst Keeps (sym at) here)

pub all_threads : (proc : CoreProc) (to : ℕ) → length proc.threads.items ≤ to → ((j : ℕ) → j < to → ThreadKeeps (process_in proc) j) → KeepsDemands (process_in proc)
all_threads proc to past before j thread is =
    let count = thread_count proc in
    let below = thread_below (process_in proc).threads j thread is in
    before j (omega arith) thread is

pub found_thread : (proc : CoreProc) (thread : ℕ) (violation : Violation) → thread < length proc.threads.items → IsFirstOfAll (process_in proc) thread (body_of proc thread) violation
    → ((j : ℕ) → j < thread → ThreadKeeps (process_in proc) j) → IsFirstInProcess (process_in proc) (record { thread = thread; violation = violation })
found_thread proc thread violation inside first before =
    let count = thread_count proc in
    record {
      thread = nth_thread (process_in proc).threads thread;
      is_thread = thread_there (process_in proc).threads thread (omega arith);
      is_first = first;
      before = before;
    }

-- the process of a number
pub nth_there : (procs : List CoreProc) (i : ℕ) (proc : CoreProc) → slice_get procs i ≡ Some proc → IsNth (file_of procs) i (process_in proc)
nth_there [] i proc at = absurd cc
nth_there (first ∷ procs) zero proc at = ap process_in (let it : first ≡ proc = cc in it)
nth_there (first ∷ procs) (suc i) proc at = nth_there procs i proc at

pub nth_one : (file : List Process) (i : ℕ) (p q : Process) → IsNth file i p → IsNth file i q → p ≡ q
nth_one [] i p q is also = elim is [ ]
nth_one (first ∷ file) zero p q is also = sym is ∙ also
nth_one (first ∷ file) (suc i) p q is also = nth_one file i p q is also

pub nth_below : (procs : List CoreProc) (i : ℕ) (p : Process) → IsNth (file_of procs) i p → i < length procs
nth_below [] i p is = elim is [ ]
nth_below (first ∷ procs) zero p is = omega arith
nth_below (first ∷ procs) (suc i) p is = let rest = nth_below procs i p is in omega arith

pub next_process : (procs : List CoreProc) (to : ℕ) (proc : CoreProc) → slice_get procs to ≡ Some proc → ((i : ℕ) → i < to → ProcessKeeps (file_of procs) i) → KeepsDemands (process_in proc)
    → (i : ℕ) → i < to + 1 → ProcessKeeps (file_of procs) i
next_process procs to proc at before here i within p is = go (two_ways i to within)
  where
    go : (i < to) ⊎ (i ≡ to) → KeepsDemands p
    go (inl earlier) = before i earlier p is
    go (inr same) =
        let Nth : ℕ → Type 0 = λ k. IsNth (file_of procs) k p in
        subst KeepsDemands (nth_one (file_of procs) to (process_in proc) p (nth_there procs to proc at) (subst Nth same is)) here

pub all_processes : (procs : List CoreProc) (to : ℕ) → length procs ≤ to → ((i : ℕ) → i < to → ProcessKeeps (file_of procs) i) → AllKeepDemands (file_of procs)
all_processes procs to past before i p is = let below = nth_below procs i p is in before i (omega arith) p is
