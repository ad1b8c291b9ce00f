-- What the end says is added for the events so far.
use Rattle.order_rules.specs.Last.{Within}
use Rattle.lifetimes.proofs.Rows.{IsAdded}
use Rattle.lifetimes.proofs.ends.add_cycles.Given as goal

abbrev pub invariant-loop-event : goal.invariant-loop-event
invariant-loop-event l = IsAdded l.graph l.from (Within l.cycles) l.event l.fn.row l.row
