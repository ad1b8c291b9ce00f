-- What is kept is the lag of each closed table, so it tells the order.
use Rattle.std.proofs.Common.{◌∙◌, ap, sym, arith}
use Rattle.event_order.specs.Lags.{lag_of}
use Rattle.event_order.proofs.Pairs.{closed_lags, closed_is}
use Rattle.lifetimes.proofs.Rows.{kept_read}
use Rattle.lifetimes.proofs.Next.{lasts_of, lasts_closed, tells}
use Rattle.lifetimes.proofs.table.EndTable.end_lag.Goals as goal

pub returns-clause-closed : goal.returns-clause-closed
returns-clause-closed c = λ events from ends is lags closed last last_closed.
    let within = c.requires in
    let count = is.count in
    ap lag_of c.index.ensures ∙ (sym (kept_read c.args.self.now.lags.items c.args.b c.index.result.now within) ∙ is.filled c.args.b (omega arith) lags closed last last_closed)

pub returns-clause-largest : goal.returns-clause-largest
returns-clause-largest c = λ events from ends is.
    tells events is.drawn from ends _ c.args.b (returns-clause-closed c events from ends is (closed_lags events is.drawn) (closed_is events is.drawn) (lasts_of events is.drawn from ends) (lasts_closed events is.drawn from ends))
