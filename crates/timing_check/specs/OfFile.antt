-- The first violation of a process and of a file.
use Rattle.std.specs.Prelude.{ℕ, ◌≡◌, ◌<◌, ◌⊎◌, List, Option, Some, None}
use Rattle.core_term.specs.Process.{Process, Thread, IsThread}
use Rattle.core_term.specs.Rules.{Meets, KeepsDemands}
use Rattle.core_term.specs.Violations.{Broken, IsBroken, ComesBefore, IsNth}
use Rattle.run_laws.specs.Accepted.{AllKeepDemands}
use Rattle.timing_check.specs.declared.files.InProcess.{InProcess}
use Rattle.timing_check.specs.declared.files.InFile.{InFile}
use Rattle.timing_check.specs.OfThread.{IsFirstOfAll}

-- it is a violation, and each other one comes later
pub record IsFirstBroken (file : List Process) (v : Broken) : Type 0 where
  pub broken : IsBroken file v
  pub first : (w : Broken) → IsBroken file w → (w ≡ v) ⊎ ComesBefore v w

-- the thread of the number keeps its demands
abbrev pub ThreadKeeps : Process → ℕ → Type 0
ThreadKeeps p j = (thread : Thread) → IsThread p.threads j thread → Meets p j thread.body

-- the first violation of a process: the threads before keep their demands
pub record IsFirstInProcess (p : Process) (found : InProcess) : Type 0 where
  pub thread : Thread
  pub is_thread : IsThread p.threads found.thread thread
  pub is_first : IsFirstOfAll p found.thread thread.body found.violation
  pub before : (j : ℕ) → j < found.thread → ThreadKeeps p j

abbrev pub IsFirstOfProcess : Process → Option InProcess → Type 0
IsFirstOfProcess p None = KeepsDemands p
IsFirstOfProcess p (Some found) = IsFirstInProcess p found

-- the process of the number keeps its demands
abbrev pub ProcessKeeps : List Process → ℕ → Type 0
ProcessKeeps file i = (p : Process) → IsNth file i p → KeepsDemands p

-- the first violation of a file: the processes before keep their demands
pub record IsFirstInFile (file : List Process) (found : InFile) : Type 0 where
  pub process : Process
  pub is_process : IsNth file found.process process
  pub is_first : IsFirstInProcess process found.found
  pub before : (i : ℕ) → i < found.process → ProcessKeeps file i

abbrev pub IsFirstOfFile : List Process → Option InFile → Type 0
IsFirstOfFile file None = AllKeepDemands file
IsFirstOfFile file (Some found) = IsFirstInFile file found
