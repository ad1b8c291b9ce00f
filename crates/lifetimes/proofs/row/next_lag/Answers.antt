-- The lags at the predecessors stand in the row, and are those of every closed table; so is the lag that follows from them.
use Rattle.std.proofs.Common.{◌<◌, ◌∙◌, refl, ap, sym, subst, arith, length, Bool, if◌then◌else◌, slice_get}
use Rattle.order_rules.specs.Lag as rules
use Rattle.order_rules.specs.Entry.{most}
use Rattle.event_graph.proofs.Preds.{delay_small}
use Rattle.event_order.specs.Lags.{lag_of, right_of, at_pred}
use Rattle.lifetimes.specs.Ends.{endings_of}
use Rattle.lifetimes.specs.Tables.{kept_at, IsLastAt}
use Rattle.lifetimes.proofs.Rows.{kept_read}
use Rattle.lifetimes.proofs.Next.{within, fits, next_is}
use Rattle.lifetimes.proofs.row.next_lag.Goals as goal

pub lag_at-first-requires : goal.lag_at-first-requires
lag_at-first-requires c =
    within c.args.graph.now c.requires.drawn c.args.life.now.from (endings_of c.args.life.now.ends.now) c.args.event c.args.row.now c.requires.whole c.requires.next c.requires.filled _ c.node-node.ensures

pub lag_at-second-requires : goal.lag_at-second-requires
lag_at-second-requires c =
    within c.args.graph.now c.requires.drawn c.args.life.now.from (endings_of c.args.life.now.ends.now) c.args.event c.args.row.now c.requires.whole c.requires.next c.requires.filled _ c.node-node.ensures

pub onward-requires-clause-cycles : goal.onward-requires-clause-cycles
onward-requires-clause-cycles c = let part = delay_small c.args.graph.now c.args.event _ c.node-node.ensures in let short = c.requires.short in omega arith

pub onward-requires-clause-fits : goal.onward-requires-clause-fits
onward-requires-clause-fits c =
    fits c.args.graph.now c.requires.drawn c.args.life.now.from (endings_of c.args.life.now.ends.now) c.args.event c.args.row.now c.requires.whole c.requires.next c.requires.filled _ c.node-node.ensures
    (lag_of c.lag_at-first.result) (lag_of c.lag_at-second.result) c.lag_at-first.ensures c.lag_at-second.ensures c.requires.short c.requires.short_ends

pub returns-then-are_apart : goal.returns-then-are_apart
returns-then-are_apart c =
    let ends = endings_of c.args.life.now.ends.now in
    let from = c.args.life.now.from in
    let graph = c.args.graph.now in
    let event = c.args.event in
    let row = c.args.row.now in
    let is = next_is graph c.requires.drawn from ends event row c.requires.whole c.requires.next c.requires.filled _ c.node-node.ensures
    (at_pred (kept_at row) (slice_get c.node-node.result.preds.now 0)) (at_pred (kept_at row) (slice_get c.node-node.result.preds.now 1)) refl refl _ c.node.ensures c.requires.ends in
    λ lags closed last last_closed. rw (sym c.are_apart.ensures, c.if-are_apart.true) at (is lags closed last last_closed)

pub returns : goal.returns
returns c =
    let ends = endings_of c.args.life.now.ends.now in
    let from = c.args.life.now.from in
    let row = c.args.row.now in
    let event = c.args.event in
    let onward = right_of c.node-node.result.kind (lag_of c.lag_at-first.result) (lag_of c.lag_at-second.result) in
    let is = next_is c.args.graph.now c.requires.drawn from ends event row c.requires.whole c.requires.next c.requires.filled _ c.node-node.ensures
    (lag_of c.lag_at-first.result) (lag_of c.lag_at-second.result) c.lag_at-first.ensures c.lag_at-second.ensures _ c.node.ensures c.requires.ends in
    let Last : Bool → Type 0 = λ apart. IsLastAt c.args.graph.now from ends event (if apart then rules.Vacuous else most (kept_at row event) onward) in
    let whole = c.requires.whole in
    let next = c.requires.next in
    let there : event < length row = omega arith in
    let here = c.most.ensures ∙ (ap (λ (x : rules.Lag). most x (lag_of c.onward.result)) (sym (kept_read row event _ there)) ∙ ap (most (kept_at row event)) c.onward.ensures) in
    subst (IsLastAt c.args.graph.now from ends event) (sym here) (subst Last (sym c.are_apart.ensures ∙ c.if-are_apart.false) is)
