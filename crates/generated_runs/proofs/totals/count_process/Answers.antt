-- The module has the ports of the process, the rows fit them and break no promise, so the counts are those of the source run.
use Rattle.std.proofs.Common.{List, ap, arith, length, subst, sym}
use Rattle.std.specs.Prelude.{IsTrue}
use Rattle.std.specs.List.{All}
use Rattle.std.proofs.lemmas.Result.{IfOk-weaker}
use Rattle.core_term.specs.declared.rows.Row.{Row}
use Rattle.core_term.specs.AcceptedFile.{process_in}
use Rattle.core_term.specs.Rows.{row_fits}
use Rattle.generated_file.proofs.RowsFit.{rows_count}
use Rattle.generated_runs.proofs.BuiltPorts.{has_ports}
use Rattle.generated_runs.proofs.Counted.{counted, fit}
use Rattle.generated_runs.proofs.totals.count_process.Goals as goal

pub count_module-counts-requires-clause-few : goal.count_module-counts-requires-clause-few
count_module-counts-requires-clause-few c =
    let count = rows_count c.args.index c.in_ok-rows.rows.items c.in_ok-rows.ensures in
    omega (arith, ap length c.deref.ensures.value, count)

pub count_module-counts-requires-clause-fit : goal.count_module-counts-requires-clause-fit
count_module-counts-requires-clause-fit c =
    let Fits = λ (rows : List Row). All (λ row. IsTrue (row_fits (process_in c.args.proc.now).ports row)) rows in
    subst Fits (sym c.deref.ensures.value)
    (fit (process_in c.args.proc.now) c.args.index c.requires.ready.ports c.requires.number c.in_ok-rows.rows.items c.in_ok-rows.ensures)

pub count_module-counts-requires-clause-same : goal.count_module-counts-requires-clause-same
count_module-counts-requires-clause-same c = has_ports (process_in c.args.proc.now) _ c.in-Ok.ensures.parts

pub returns-in-Ok-clause-counted : goal.returns-in-Ok-clause-counted
returns-in-Ok-clause-counted c =
    let p = process_in c.args.proc.now in
    let rows = c.in_ok-rows.rows.items in
    IfOk-weaker c.count_module-counts.result _ _
    (λ counts is. counted p _ (c.in-Ok.ensures.agrees c.requires.ready.keeps) c.args.index c.requires.ready.ports c.requires.number rows c.in_ok-rows.ensures c.deref.result.now c.deref.ensures.value counts is)
    c.count_module-counts.ensures.counts
