-- A new machine stands before the first cycle of what is seen of its module.
use Rattle.std.proofs.Common.{ap, sym}
use Rattle.core_term.specs.ProcessView.{process_of}
use Rattle.module_log.specs.Log.{module_shown}
use Rattle.module_log.proofs.OnRows.{on_rows}
use Rattle.module_log.proofs.log.put_module_log.Goals as goal

pub returns : goal.returns
returns g c =
    let p = process_of c.args.proc.now.name c.args.proc.now.ports.items c.args.proc.now.regs.items c.args.proc.now.threads.items in
    let tree = c.args.module.now in
    let rows = c.args.rows.now in
    c.put_run.ensures (module_shown p tree rows) (on_rows p tree rows)
    (record { same = sym (ap (λ other. module_shown p other rows) c.in-Ok.ensures.same_module); stands = c.in-Ok.ensures.stands })
