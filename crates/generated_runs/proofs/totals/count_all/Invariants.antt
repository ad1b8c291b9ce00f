-- The processes so far are summed up, and the sums are small.
use Rattle.std.proofs.Common.{◌≤◌, ◌*◌, ◌^◌, take}
use Rattle.core_term.specs.AcceptedFile.{file_of}
use Rattle.core_term.specs.Limits.{most_registers}
use Rattle.run_counts.specs.Counts.{most_exchanges}
use Rattle.generated_runs.specs.Totals.{IsTotalOf}
use Rattle.generated_runs.proofs.More.{counts_by}
use Rattle.generated_runs.proofs.totals.count_all.Given as goal

abbrev pub invariant-loop-index : goal.invariant-loop-index
invariant-loop-index l =
    IsTotalOf (file_of (take l.index l.fn.procs)) (counts_by l.exchanges l.registers)
    × (l.exchanges ≤ l.index * most_exchanges)
    × (l.registers ≤ l.index * (most_registers * 2 ^ 64))
