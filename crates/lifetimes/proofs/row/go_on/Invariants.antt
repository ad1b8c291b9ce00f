-- The lags of the last cycle stand in the row for the events so far, and for the others what the ends say.
use Rattle.std.proofs.Common.{◌≡◌, length}
use Rattle.lifetimes.specs.Ends.{endings_of}
use Rattle.lifetimes.specs.Tables.{AreEndsFrom, IsFilledTo}
use Rattle.lifetimes.proofs.row.go_on.Given as goal

abbrev pub invariant-loop-event : goal.invariant-loop-event
invariant-loop-event l =
    (length l.row ≡ length l.graph)
    × AreEndsFrom l.event l.graph l.life.from (endings_of l.life.ends.now) l.row
    × IsFilledTo l.event l.graph l.life.from (endings_of l.life.ends.now) l.row
