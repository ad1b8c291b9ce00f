-- Every process of a file without violations runs safely.
--
-- The number of a process in the plain file is that of one in the file of the code, which is a process of the definitions; its
-- demands hold since the list of violations is empty, so the safety of accepted processes applies.
use Rattle.std.proofs.Common.{◌≡◌, ℕ, inl, inr, refl, List, [], ◌∷◌, subst, zero, suc}
use Rattle.core_term.specs.declared.process.CoreProc.{CoreProc}
use Rattle.core_term.specs.Lists.{Has}
use Rattle.core_term.specs.Process.{Process, IsProcess}
use Rattle.core_term.specs.Violations.{IsNth, HasNoViolations}
use Rattle.core_term.specs.AcceptedFile.{process_in, file_of, AllStand, AllRunSafely}
use Rattle.run_laws.proofs.safe_runs.NoViolations.{from_empty}
use Rattle.run_laws.proofs.safe_runs.SafeRun.{safe}

pub nth_of : (procs : List CoreProc) (i : ℕ) (p : Process) → IsNth (file_of procs) i p → (proc : CoreProc) × Has procs proc × (process_in proc ≡ p)
nth_of [] i p k = elim k [ ]
nth_of (proc ∷ procs) zero p k = (proc, inl refl, k)
nth_of (proc ∷ procs) (suc i) p k = let by_nth_of = nth_of procs i p k in (by_nth_of.0, inr by_nth_of.1, by_nth_of.2)

pub all_safe : (procs : List CoreProc) → AllStand procs → HasNoViolations (file_of procs) → AllRunSafely (file_of procs)
all_safe procs stand empty i p nth inputs registers history =
    let next_by_nth_of = nth_of procs i p nth in
    safe p (subst IsProcess next_by_nth_of.2 (stand next_by_nth_of.0 next_by_nth_of.1)) (from_empty (file_of procs) empty i p nth) inputs registers
