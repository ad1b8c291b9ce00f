-- One row more.
use Rattle.std.proofs.Common.{map, ap, sym, subst, ◌∙◌, ◌+◌}
use Rattle.demand_checks.proofs.Loops.{AreRows, row_more, map_more, rows_tell}
use Rattle.demand_checks.proofs.sites.Sites.by_number.Goals as goal

pub loop-number-preserved : goal.loop-number-preserved
loop-number-preserved c =
    subst (λ rows. AreRows c.args.numbers.now (c.loop-number.number + 1) rows)
    (sym (ap (map (λ row. row.items)) c.in_ok-push.ensures.items ∙ map_more (λ row. row.items) c.loop-number.rows.items c.in_ok-places_of.field-0))
    (row_more c.args.numbers.now c.loop-number.number (map (λ row. row.items) c.loop-number.rows.items) c.in_ok-places_of.field-0.items c.loop-number.invariant c.in_ok-places_of.ensures)

pub returns : goal.returns
returns c = rows_tell c.args.numbers.now c.bound-number-end.result c.loop-number.number _ c.loop-number.invariant c.loop-number-test.false c.bound-number-end.ensures
