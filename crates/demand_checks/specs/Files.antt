-- The violations of a file from those of its threads: all of them in a list, and which of them is the first.
use Rattle.std.specs.Prelude.{ℕ, suc, ◌≡◌, ◌<◌, List, [], ◌∷◌, ◌++◌, map}
use Rattle.core_term.specs.declared.rules.Violation.{Violation}
use Rattle.core_term.specs.Process.{Process, Thread, IsThread}
use Rattle.core_term.specs.Rules.{KeepsDemands, Meets}
use Rattle.core_term.specs.Violations.{Broken, IsNth, IsViolations}
use Rattle.demand_checks.specs.Found.{AreViolations}
use Rattle.demand_checks.specs.Merged.{all_rules}

-- the record of a violation of the thread j of the process i
abbrev pub broken : ℕ → ℕ → Violation → Broken
broken i j one = record { process = i; thread = j; rule = one.rule; first = one.first; second = one.second }

-- each list is that of the thread in its place, from the thread j on
abbrev pub AreOfThreads : Process → ℕ → List Thread → List (List Violation) → Type 0
AreOfThreads p j [] [] = Unit {0}
AreOfThreads p j [] (one ∷ lists) = ⊥
AreOfThreads p j (thread ∷ threads) [] = ⊥
AreOfThreads p j (thread ∷ threads) (one ∷ lists) =
    AreViolations p j thread.body all_rules one × AreOfThreads p (suc j) threads lists

abbrev pub AreOfFile : List Process → List (List (List Violation)) → Type 0
AreOfFile [] [] = Unit {0}
AreOfFile [] (one ∷ lists) = ⊥
AreOfFile (p ∷ file) [] = ⊥
AreOfFile (p ∷ file) (one ∷ lists) = AreOfThreads p 0 p.threads one × AreOfFile file lists

-- one after the other, from the thread j and from the process i on
abbrev pub of_threads : ℕ → ℕ → List (List Violation) → List Broken
of_threads i j [] = []
of_threads i j (one ∷ lists) = map (broken i j) one ++ of_threads i (suc j) lists

abbrev pub of_file : ℕ → List (List (List Violation)) → List Broken
of_file i [] = []
of_file i (one ∷ lists) = of_threads i 0 one ++ of_file (suc i) lists

-- The violations of all threads, one list after the other, are those of the file.
abbrev pub FileLists : Type 0
FileLists =
    (file : List Process) (lists : List (List (List Violation))) → AreOfFile file lists
    → IsViolations file (of_file 0 lists)

-- all processes before one keep their demands, and so do the threads of that one before another
abbrev pub KeepBefore : List Process → ℕ → Process → ℕ → Type 0
KeepBefore file i p j =
    ((k : ℕ) (q : Process) → k < i → IsNth file k q → KeepsDemands q)
    × ((k : ℕ) (thread : Thread) → k < j → IsThread p.threads k thread → Meets p k thread.body)

-- Where all that stands before a thread is kept, the first violation of the thread is the first of the file.
abbrev pub FirstOfFile : Type 0
FirstOfFile =
    (file : List Process) (i j : ℕ) (p : Process) (thread : Thread) → IsNth file i p → IsThread p.threads j thread
    → KeepBefore file i p j
    → (first : Violation) (rest : List Violation) → AreViolations p j thread.body all_rules (first ∷ rest)
    → (violations : List Broken) → IsViolations file violations
    → (others : List Broken) × (violations ≡ broken i j first ∷ others)
