-- The exchanges so far and those of the ports that are left.
use Rattle.std.proofs.Common.{◌≡◌, ◌≤◌, ◌+◌, drop}
use Rattle.run_counts.specs.Cells.{meetings}
use Rattle.run_counts.proofs.cells.count_met.Given as goal

abbrev pub invariant-loop-index : goal.invariant-loop-index
invariant-loop-index l =
    (l.count ≤ l.index)
    × (l.count + meetings (drop l.index l.fn.came) (drop l.index l.fn.goes) ≡ meetings l.fn.came l.fn.goes)
