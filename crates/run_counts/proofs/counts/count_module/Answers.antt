-- A new machine stands before the first cycle of what is seen of its module.
use Rattle.std.proofs.Common.{ap, sym}
use Rattle.core_term.specs.ProcessView.{process_of}
use Rattle.module_log.specs.Log.{module_shown}
use Rattle.run_counts.proofs.counts.count_module.Goals as goal

pub returns-clause-counts : goal.returns-clause-counts
returns-clause-counts c =
    let p = process_of c.args.proc.now.name c.args.proc.now.ports.items c.args.proc.now.regs.items c.args.proc.now.threads.items in
    let tree = c.args.module.now in
    let rows = c.args.rows.now in
    c.count_rows.ensures.counts (module_shown p tree rows)
    (record { same = sym (ap (λ other. module_shown p other rows) c.in_ok-machine.ensures.same_module); stands = c.in_ok-machine.ensures.stands })
