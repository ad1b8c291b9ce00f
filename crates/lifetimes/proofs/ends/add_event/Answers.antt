-- The event is one of the graph, and what the end says of it is added; or it is none, and the end says nothing.
use Rattle.std.proofs.Common.{◌<◌, ◌≤◌, ◌∙◌, refl, ap, sym, arith, length, length-set}
use Rattle.order_rules.specs.Last.{At}
use Rattle.order_rules.specs.Lag as rules
use Rattle.order_rules.specs.Entry.{most}
use Rattle.event_order.specs.Lags.{lag_of}
use Rattle.lifetimes.specs.Tables.{kept_at, by_event}
use Rattle.lifetimes.proofs.Rows.{kept_read, event_added, no_event, ends_added}
use Rattle.lifetimes.proofs.ends.add_event.Goals as goal

pub returns-then-event-count : goal.returns-then-event-count
returns-then-event-count c =
    let graph = c.args.graph.now in
    let row = c.args.row.now in
    let before = c.if-event-count.true in
    let count = c.count.ensures.count in
    let whole = c.requires.whole in
    let within : c.args.event < length row = omega arith in
    ends_added graph c.args.from (At c.args.event) row _
    (event_added graph c.args.from c.args.event row _ c.most.result within refl (length-set row c.args.event c.most.result)
    (λ lags closed.
    c.most.ensures
    ∙ (ap (λ (x : rules.Lag). most x (lag_of c.at_event-lag.result)) (sym (kept_read row c.args.event _ within))
    ∙ ap (most (kept_at row c.args.event)) (c.at_event-lag.ensures ∙ ap by_event (c.lag.ensures.closed graph c.requires.order lags closed)))))

pub returns-else-event-count : goal.returns-else-event-count
returns-else-event-count c =
    let row = c.args.row.now in
    let past = c.if-event-count.false in
    let count = c.count.ensures.count in
    let whole = c.requires.whole in
    let there : length row ≤ c.args.event = omega arith in
    ends_added c.args.graph.now c.args.from (At c.args.event) row row (no_event c.args.graph.now c.args.from c.args.event row there)
