-- Each lag that is read stands in the table already, and is that of every closed table; so is the lag that follows from them.
use Rattle.std.proofs.Common.{arith, ◌∙◌}
use Rattle.event_graph.proofs.Preds.{delay_small}
use Rattle.event_order.proofs.Pairs.{entry_is}
use Rattle.event_order.proofs.Next.{to_few, to_within, to_read, to_small, from_few, from_within, from_read, from_small}
use Rattle.event_order.proofs.table.next_lag.Goals as goal

pub lag_to-first-requires-clause-few : goal.lag_to-first-requires-clause-few
lag_to-first-requires-clause-few c = to_few c.args.graph.now c.requires.drawn c.requires.few c.args.table.now c.requires.filled c.args.a c.args.b c.requires.first c.requires.second c.requires.next _ c.node-node.ensures

pub lag_to-first-requires-clause-within : goal.lag_to-first-requires-clause-within
lag_to-first-requires-clause-within c = to_within c.args.graph.now c.requires.drawn c.requires.few c.args.table.now c.requires.filled c.args.a c.args.b c.requires.first c.requires.second c.requires.next _ c.node-node.ensures

pub lag_to-second-requires-clause-few : goal.lag_to-second-requires-clause-few
lag_to-second-requires-clause-few c = to_few c.args.graph.now c.requires.drawn c.requires.few c.args.table.now c.requires.filled c.args.a c.args.b c.requires.first c.requires.second c.requires.next _ c.node-node.ensures

pub lag_to-second-requires-clause-within : goal.lag_to-second-requires-clause-within
lag_to-second-requires-clause-within c = to_within c.args.graph.now c.requires.drawn c.requires.few c.args.table.now c.requires.filled c.args.a c.args.b c.requires.first c.requires.second c.requires.next _ c.node-node.ensures

pub by_right-right-requires-clause-cycles : goal.by_right-right-requires-clause-cycles
by_right-right-requires-clause-cycles c = let part = delay_small c.args.graph.now c.args.b _ c.node-node.ensures in let short = c.requires.short in omega arith

pub by_right-right-requires-clause-small : goal.by_right-right-requires-clause-small
by_right-right-requires-clause-small c = to_small c.args.graph.now c.requires.drawn c.requires.few c.args.table.now c.requires.filled c.args.a c.args.b c.requires.first c.requires.second c.requires.next c.requires.short _ c.node-node.ensures 0 _ c.lag_to-first.ensures

pub lag_from-third-requires-clause-few : goal.lag_from-third-requires-clause-few
lag_from-third-requires-clause-few c = from_few c.args.graph.now c.requires.drawn c.requires.few c.args.table.now c.requires.filled c.args.a c.args.b c.requires.first c.requires.second c.requires.next _ c.node-other.ensures

pub lag_from-third-requires-clause-within : goal.lag_from-third-requires-clause-within
lag_from-third-requires-clause-within c = from_within c.args.graph.now c.requires.drawn c.requires.few c.args.table.now c.requires.filled c.args.a c.args.b c.requires.first c.requires.second c.requires.next _ c.node-other.ensures

pub lag_from-fourth-requires-clause-few : goal.lag_from-fourth-requires-clause-few
lag_from-fourth-requires-clause-few c = from_few c.args.graph.now c.requires.drawn c.requires.few c.args.table.now c.requires.filled c.args.a c.args.b c.requires.first c.requires.second c.requires.next _ c.node-other.ensures

pub lag_from-fourth-requires-clause-within : goal.lag_from-fourth-requires-clause-within
lag_from-fourth-requires-clause-within c = from_within c.args.graph.now c.requires.drawn c.requires.few c.args.table.now c.requires.filled c.args.a c.args.b c.requires.first c.requires.second c.requires.next _ c.node-other.ensures

pub by_left-left-requires-clause-cycles : goal.by_left-left-requires-clause-cycles
by_left-left-requires-clause-cycles c = let part = delay_small c.args.graph.now c.args.a _ c.node-other.ensures in let short = c.requires.short in omega arith

pub by_left-left-requires-clause-small : goal.by_left-left-requires-clause-small
by_left-left-requires-clause-small c = from_small c.args.graph.now c.requires.drawn c.requires.few c.args.table.now c.requires.filled c.args.a c.args.b c.requires.first c.requires.second c.requires.next c.requires.short _ c.node-other.ensures 0 _ c.lag_from-third.ensures

pub returns : goal.returns
returns c = λ lags closed.
    let first = c.lag_to-first.ensures ∙ to_read c.args.graph.now c.requires.drawn c.requires.few c.args.table.now c.requires.filled c.args.a c.args.b c.requires.first c.requires.second c.requires.next lags closed _ c.node-node.ensures 0 in
    let second = c.lag_to-second.ensures ∙ to_read c.args.graph.now c.requires.drawn c.requires.few c.args.table.now c.requires.filled c.args.a c.args.b c.requires.first c.requires.second c.requires.next lags closed _ c.node-node.ensures 1 in
    let third = c.lag_from-third.ensures ∙ from_read c.args.graph.now c.requires.drawn c.requires.few c.args.table.now c.requires.filled c.args.a c.args.b c.requires.first c.requires.second c.requires.next lags closed _ c.node-other.ensures 0 in
    let fourth = c.lag_from-fourth.ensures ∙ from_read c.args.graph.now c.requires.drawn c.requires.few c.args.table.now c.requires.filled c.args.a c.args.b c.requires.first c.requires.second c.requires.next lags closed _ c.node-other.ensures 1 in
    c.by_all.ensures ∙ rw (c.are_apart.ensures, c.by_right-right.ensures, c.by_left-left.ensures, first, second, third, fourth) (entry_is c.args.graph.now lags closed c.requires.drawn c.args.a c.args.b _ _ c.node-other.ensures c.node-node.ensures)
