-- A row that is put is put into the table.
use Rattle.std.proofs.Common.{◌<◌, ◌≤◌, arith, sym, ◌∙◌, ap, length}
use Rattle.core_term.specs.AtomTables.{put_row}
use Rattle.core_term.proofs.code_tables.TableRows.{put_inside, put_outside}
use Rattle.core_term.proofs.table.AtomTable.put.Goals as goal

pub returns-then-place-len : goal.returns-then-place-len
returns-then-place-len c =
    let short : c.args.place < length c.self.inside.rows.items = omega (arith, c.self.inside.rows.ok, c.len.ensures, c.if-place-len.true) in
    put_inside (λ row. row.items) c.self.inside.rows.items c.args.place c.args.row short
    ∙ ap (λ t. put_row t c.args.place c.args.row.items) c.self.view_is

pub returns-else-place-len : goal.returns-else-place-len
returns-else-place-len c =
    let long : length c.self.inside.rows.items ≤ c.args.place = omega (arith, c.self.inside.rows.ok, c.len.ensures, c.if-place-len.false) in
    sym c.self.view_is
    ∙ (sym (put_outside (λ row. row.items) c.self.inside.rows.items c.args.place c.args.row.items long)
    ∙ ap (λ t. put_row t c.args.place c.args.row.items) c.self.view_is)
