-- One process more is summed up, and all of them.
use Rattle.std.proofs.Common.{arith}
use Rattle.generated_runs.proofs.More.{total_more}
use Rattle.generated_runs.proofs.totals.count_all.Goals as goal

pub loop-index-preserved : goal.loop-index-preserved
loop-index-preserved c =
    let (sums, few, small) = c.loop-index.invariant in
    let here = c.in_ok-counts.ensures in
    let first = here.few.0 in
    let second = here.few.1 in (
      total_more c.args.procs.now c.loop-index.index c.index-procs-index.result c.loop-index.exchanges c.loop-index.registers c.in_ok-counts.counts (omega arith) c.index-procs-index.is sums here.counted,
      omega (arith, few, first),
      omega (arith, small, second),
    )
