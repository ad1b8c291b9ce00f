-- So many flags so far.
use Rattle.std.proofs.Common.{◌≡◌, length}
use Rattle.stim_text.proofs.passing.all_off.Given as goal

abbrev pub invariant-loop : goal.invariant-loop
invariant-loop l = length l.flags.items ≡ l.counter
