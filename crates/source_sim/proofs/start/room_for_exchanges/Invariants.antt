-- So many places so far.
use Rattle.std.proofs.Common.{◌≡◌, length}
use Rattle.source_sim.proofs.start.room_for_exchanges.Given as goal

abbrev pub invariant-loop : goal.invariant-loop
invariant-loop l = length l.exchanged.items ≡ l.counter
