-- The lag is that of the closed table, so it is small enough to be kept, and the table stays filled.
use Rattle.std.proofs.Common.{List, sym, subst, ◌∙◌}
use Rattle.event_order.specs.declared.entry.Entry.{Entry}
use Rattle.event_order.specs.Lags.{IsSmall}
use Rattle.event_order.specs.Stored.{IsFilled}
use Rattle.event_order.proofs.Pairs.{closed_lags, closed_is, closed_is_small}
use Rattle.event_order.proofs.Filled.{filled_push}
use Rattle.event_order.proofs.table.push_next.Goals as goal

pub next_lag-lag-requires-clause-filled : goal.next_lag-lag-requires-clause-filled
next_lag-lag-requires-clause-filled c =
    let P : List Entry → Type 0 = λ table. IsFilled c.args.graph.now table in
    subst P (sym c.deref.ensures.value) c.requires.filled

pub of-requires : goal.of-requires
of-requires c =
    let events = c.args.graph.now in
    let drawn = c.requires.drawn in
    subst IsSmall (sym (c.next_lag-lag.ensures (closed_lags events drawn) (closed_is events drawn))) (closed_is_small events drawn c.requires.short c.args.a c.args.b)

pub returns-clause-filled : goal.returns-clause-filled
returns-clause-filled c =
    filled_push c.args.graph.now c.args.table.now.items _ _ c.args.a c.args.b c.push_reserved.ensures.items c.requires.next c.requires.filled (λ lags closed. c.of.ensures ∙ c.next_lag-lag.ensures lags closed)
