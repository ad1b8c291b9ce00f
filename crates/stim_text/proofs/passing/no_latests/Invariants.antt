-- So many ports so far, of which there was no exchange.
use Rattle.std.proofs.Common.{◌≡◌, length}
use Rattle.stim_text.specs.Passing.{AreNone}
use Rattle.stim_text.proofs.passing.no_latests.Given as goal

abbrev pub invariant-loop : goal.invariant-loop
invariant-loop l = record { count : length l.latests.items ≡ l.counter; none : AreNone l.latests.items }
