-- The lag of the order is that of each closed table, and small; what the end says is added for one event after the other.
use Rattle.std.proofs.Common.{◌≡◌, ℕ, ◌<◌, ◌∙◌, refl, ap, sym, subst, arith, length, length-set}
use Rattle.order_rules.specs.Last.{Within}
use Rattle.order_rules.specs.Lag as rules
use Rattle.order_rules.specs.Entry.{most}
use Rattle.order_rules.specs.LastEntry.{end_entry}
use Rattle.event_order.specs.Lags.{lag_of}
use Rattle.lifetimes.specs.Tables.{kept_at}
use Rattle.lifetimes.proofs.Rows.{IsAdded, kept_read, order_small, added_next, ends_added}
use Rattle.lifetimes.proofs.ends.add_cycles.Goals as goal

pub after_cycles-lag-requires : goal.after_cycles-lag-requires
after_cycles-lag-requires c =
    let graph = c.args.graph.now in
    order_small graph c.requires.order.drawn c.requires.short c.args.from c.loop-event.event _ (c.lag.ensures.closed graph c.requires.order)

pub loop-event-preserved : goal.loop-event-preserved
loop-event-preserved c =
    let graph = c.args.graph.now in
    let event = c.loop-event.event in
    let row = c.loop-event.row in
    let before = c.loop-event-test.true in
    let count = c.count-event-end.ensures.count in
    let same = c.loop-event.invariant.same_length in
    let whole = c.requires.whole in
    let within : event < length row = omega arith in
    added_next graph c.args.from (Within c.args.cycles) event c.args.row.now row _ c.most.result c.loop-event.invariant within refl (length-set row event c.most.result)
    (λ lags closed.
    c.most.ensures
    ∙ (ap (λ (x : rules.Lag). most x (lag_of c.after_cycles-lag.result)) (sym (kept_read row event _ within))
    ∙ ap (most (kept_at row event)) (c.after_cycles-lag.ensures event ∙ ap (λ (x : rules.Lag). end_entry x event (Within c.args.cycles)) (c.lag.ensures.closed graph c.requires.order lags closed))))

pub returns : goal.returns
returns c =
    let same = c.loop-event.invariant.same_length in
    let whole = c.requires.whole in
    let count = c.count-event-end.ensures.count in
    let done = c.loop-event-test.false in
    let last = c.loop-event.auto.event-end in
    let all : c.loop-event.event ≡ length c.args.row.now = omega arith in
    let P : ℕ → Type 0 = λ to. IsAdded c.args.graph.now c.args.from (Within c.args.cycles) to c.args.row.now c.loop-event.row in
    ends_added c.args.graph.now c.args.from (Within c.args.cycles) c.args.row.now c.loop-event.row (subst P all c.loop-event.invariant)
