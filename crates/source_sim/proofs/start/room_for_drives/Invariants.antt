-- So many places so far.
use Rattle.std.proofs.Common.{◌≡◌, length}
use Rattle.source_sim.proofs.start.room_for_drives.Given as goal

abbrev pub invariant-loop : goal.invariant-loop
invariant-loop l = length l.drives.items ≡ l.counter
