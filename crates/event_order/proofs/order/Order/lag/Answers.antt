-- Both events are below the count, so their lag stands in the table; what is kept there is that of every closed table.
use Rattle.std.proofs.Common.{◌<◌, ap, ◌∙◌, arith, length, List}
use Rattle.event_order.specs.declared.entry.Entry.{Entry}
use Rattle.event_order.specs.Stored.{stored, place_of}
use Rattle.event_order.proofs.Places.{place_within}
use Rattle.event_order.proofs.Pairs.{closed_lags, closed_is}
use Rattle.event_order.proofs.Filled.{tells}
use Rattle.event_order.proofs.order.Order.lag.Goals as goal

pub lag_in-requires-clause-within : goal.lag_in-requires-clause-within
lag_in-requires-clause-within c =
    let within = place_within c.args.a c.args.b c.args.self.now.count c.requires.first c.requires.second in
    let square = c.args.self.now.square in
    let same = ap (λ (table : List Entry). length table) c.deref.ensures.value in
    omega arith

pub returns-clause-closed : goal.returns-clause-closed
returns-clause-closed c = λ events is lags closed.
    let within = place_within c.args.a c.args.b c.args.self.now.count c.requires.first c.requires.second in
    let square = c.args.self.now.square in
    let there : place_of c.args.a c.args.b < length c.args.self.now.entries.items = omega arith in
    c.lag_in.ensures ∙ (ap (λ (table : List Entry). stored table (place_of c.args.a c.args.b)) c.deref.ensures.value ∙ is.filled lags closed c.args.a c.args.b there)

pub returns-clause-largest : goal.returns-clause-largest
returns-clause-largest c = λ events is. tells events is.drawn c.lag_in.result c.args.a c.args.b (returns-clause-closed c events is (closed_lags events is.drawn) (closed_is events is.drawn))
