-- The threads so far keep their demands.
use Rattle.std.proofs.Common.{ℕ, ◌<◌}
use Rattle.core_term.specs.AcceptedFile.{process_in}
use Rattle.timing_check.specs.OfFile.{ThreadKeeps}
use Rattle.timing_check.proofs.files.first_of_process.Given as goal

abbrev pub invariant-loop-thread : goal.invariant-loop-thread
invariant-loop-thread l = (j : ℕ) → j < l.thread → ThreadKeeps (process_in l.proc) j
