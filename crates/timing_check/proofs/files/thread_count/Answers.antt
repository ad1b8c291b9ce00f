-- A sized process has few threads.
use Rattle.std.proofs.Common.{arith}
use Rattle.timing_check.proofs.Processes.{few_threads}
use Rattle.timing_check.proofs.files.thread_count.Goals as goal

pub overflow_cast-result : goal.overflow_cast-result
overflow_cast-result c =
    let few = few_threads c.args.proc.now in
    let whole = c.args.proc.now.threads.ok.0 in
    let count = c.len.ensures in
    omega arith
