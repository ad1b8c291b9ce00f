-- The processes so far keep their demands.
use Rattle.std.proofs.Common.{ℕ, ◌<◌}
use Rattle.core_term.specs.AcceptedFile.{file_of}
use Rattle.timing_check.specs.OfFile.{ProcessKeeps}
use Rattle.timing_check.proofs.files.first_of_file.Given as goal

abbrev pub invariant-loop-process : goal.invariant-loop-process
invariant-loop-process l = (i : ℕ) → i < l.process → ProcessKeeps (file_of l.procs) i
