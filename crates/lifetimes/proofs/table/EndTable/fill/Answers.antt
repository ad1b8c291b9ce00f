-- The row has a lag for each event, and goes back into the vector whole.
use Rattle.std.proofs.Common.{◌≡◌, ◌∙◌, ap, List, length, take_at, arith}
use Rattle.event_order.specs.declared.lag.Lag.{Lag}
use Rattle.lifetimes.specs.Tables.{kept_at}
use Rattle.lifetimes.proofs.table.EndTable.fill.Goals as goal

pub returns : goal.returns
returns c =
    let row = c.go_on.new.row in
    let after = c.go_on.auto.row in
    let lent = c.deref_mut-2.ensures.len in
    let made = c.in_ok-lags.ensures.len in
    let count = c.count.ensures.count in
    let whole : length row ≡ length c.args.graph.now = omega arith in
    let kept : length row ≡ c.in_ok-lags.lags.len = omega arith in
    let back = take_at row _ c.in_ok-lags.lags.len kept in
    record {
      drawn = c.count.ensures.drawn;
      count = ap length back ∙ whole;
      filled = λ b within lags closed last last_closed. ap (λ (x : List Lag). kept_at x b) back ∙ c.go_on.ensures b within lags closed last last_closed;
    }
