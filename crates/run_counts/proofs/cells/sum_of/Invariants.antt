-- The sum so far and that of the registers that are left.
use Rattle.std.proofs.Common.{◌≡◌, ◌≤◌, ◌+◌, ◌*◌, drop}
use Rattle.std.specs.List.{sum_by}
use Rattle.run_counts.specs.Counts.{shown_value}
use Rattle.run_counts.proofs.cells.sum_of.Given as goal

abbrev pub invariant-loop-index : goal.invariant-loop-index
invariant-loop-index l =
    (l.sum ≤ l.index * 0x1_0000_0000_0000_0000)
    × (l.sum + sum_by shown_value (drop l.index l.fn.numbers) ≡ sum_by shown_value l.fn.numbers)
