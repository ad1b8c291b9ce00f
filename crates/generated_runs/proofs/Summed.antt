-- What the code knows of the accepted file is what is said of the generated file of the number.
use Rattle.std.proofs.Common.{◌≡◌, ℕ, ◌≤◌, List, subst}
use Rattle.core_term.specs.declared.process.CoreProc.{CoreProc}
use Rattle.core_term.specs.AcceptedFile.{file_of}
use Rattle.run_counts.specs.declared.counts.Counts.{Counts}
use Rattle.checked_files.specs.Check.{IsAcceptedCore, IsAcceptedFile, IsAcceptedText}
use Rattle.checked_files.proofs.Ruled.{processes_are}
use Rattle.generated_file.specs.Generated.{generated}
use Rattle.generated_runs.specs.Totals.{IsTotal, IsTotalOf}
use Rattle.generated_runs.proofs.Ready.{AreReady, are_ready}

module _ (count : ℕ) (bytes : List ℕ) (is : bytes ≡ generated count) (procs : List CoreProc) (core : IsAcceptedCore bytes procs) where
  pub ready_of : 1 ≤ count → count ≤ 64 → AreReady count procs
  ready_of some few = are_ready count some few procs (subst (λ text. IsAcceptedCore text procs) is core)

  accepted : IsAcceptedFile (generated count) core.file
  accepted = subst (λ text. IsAcceptedFile text core.file) is core.accepted

  pub accepted_text : IsAcceptedText (generated count)
  accepted_text = record { file = core.file; is = accepted }

  pub total_of : (totals : Counts) → IsTotalOf (file_of procs) totals → IsTotal count totals
  total_of totals sums = record {
    file = core.file;
    accepted = accepted;
    sums = subst (λ processes. IsTotalOf processes totals) (processes_are core.file procs core.core) sums;
  }
