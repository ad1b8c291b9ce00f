use Rattle.std.proofs.Common.{subst}
use Rattle.core_term.specs.declared.process.CoreFile.{CoreFile}
use Rattle.core_term.specs.AcceptedFile.{file_of, AllRunSafely}
use Rattle.run_laws.proofs.safe_runs.AllSafe.{all_safe}
use Rattle.accepted_file.proofs.accepted.Accepted.file.Goals as goal

pub returns-clause-safe : goal.returns-clause-safe
returns-clause-safe c =
    let Safely : CoreFile → Type 0 = λ file. AllRunSafely (file_of file.procs.items) in
    subst Safely c.self.view_is (all_safe c.self.inside.file.procs.items c.self.invariant.1 c.self.invariant.0)
