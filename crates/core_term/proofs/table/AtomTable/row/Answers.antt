-- A row of the code is that of the table.
use Rattle.std.proofs.Common.{sym, ◌∙◌, ap, map}
use Rattle.core_term.specs.AtomTables.{row_at}
use Rattle.core_term.proofs.code_tables.TableRows.{row_inside, row_outside}
use Rattle.core_term.proofs.table.AtomTable.row.Goals as goal

pub returns-in-Some : goal.returns-in-Some
returns-in-Some c =
    let found = c.in-Some.ensures.lookup in
    let here = row_inside (λ row. row.items) c.deref.result.now c.args.site c.in-Some.row.now found.3.0 found.1 in
    c.as_slice.ensures.value ∙ (sym here ∙ (ap (λ rows. row_at (map (λ row. row.items) rows) c.args.site) c.deref.ensures.value ∙ ap (λ t. row_at t c.args.site) c.self.view_is))

pub returns-in-None : goal.returns-in-None
returns-in-None c =
    let lost = c.in-None.ensures.lookup in
    let none = row_outside (λ row. row.items) c.deref.result.now c.args.site lost.3 in
    sym none ∙ (ap (λ rows. row_at (map (λ row. row.items) rows) c.args.site) c.deref.ensures.value ∙ ap (λ t. row_at t c.args.site) c.self.view_is)
