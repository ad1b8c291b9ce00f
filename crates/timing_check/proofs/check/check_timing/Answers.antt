-- The answered file is the one handed in.
use Rattle.std.proofs.Common.{subst}
use Rattle.core_term.specs.declared.process.CoreFile.{CoreFile}
use Rattle.core_term.specs.AcceptedFile.{AllRunSafely, file_of}
use Rattle.timing_check.proofs.check.check_timing.Goals as goal

pub returns-in-Ok-None-clause-safe : goal.returns-in-Ok-None-clause-safe
returns-in-Ok-None-clause-safe c = let Safe : CoreFile → Type 0 = λ file. AllRunSafely (file_of file.procs.items) in subst Safe c.of.ensures.same c.of.ensures.safe
