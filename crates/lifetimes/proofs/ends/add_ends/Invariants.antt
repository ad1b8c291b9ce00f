-- What the ends so far say stands in the row.
use Rattle.std.proofs.Common.{◌≡◌, length, take}
use Rattle.lifetimes.specs.Ends.{endings_of}
use Rattle.lifetimes.specs.Tables.{AreEndsFrom, AreShort}
use Rattle.lifetimes.proofs.ends.add_ends.Given as goal

abbrev pub invariant-loop-end : goal.invariant-loop-end
invariant-loop-end l = (length l.row ≡ length l.graph) × AreEndsFrom 0 l.graph l.life.from (endings_of (take l.end-index l.life.ends.now)) l.row × AreShort (endings_of (take l.end-index l.life.ends.now))
