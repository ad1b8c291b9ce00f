-- A new simulation stands before the first cycle of what is seen of the source run.
use Rattle.std.proofs.Common.{sym, ap}
use Rattle.core_term.specs.ProcessView.{process_of}
use Rattle.source_log.specs.Log.{shown_on}
use Rattle.source_log.proofs.OnRows.{on_rows}
use Rattle.source_log.proofs.log.put_log.Goals as goal

pub returns : goal.returns
returns g c =
    let p = process_of c.args.proc.now.name c.args.proc.now.ports.items c.args.proc.now.regs.items c.args.proc.now.threads.items in
    c.put_run.ensures (shown_on p c.args.rows.now) (on_rows p c.args.rows.now)
    (record { same = sym (ap (λ q. shown_on q c.args.rows.now) c.in-Ok.ensures.process); stands = c.in-Ok.ensures.stands })
