-- No port so far breaks its promise.
use Rattle.std.proofs.Common.{◌≡◌, ◌<◌, ℕ, false}
use Rattle.exchanges.specs.Broken.{broken_at}
use Rattle.exchanges.proofs.broken.first_broken.Given as goal

abbrev pub invariant-loop-index : goal.invariant-loop-index
invariant-loop-index l = (m : ℕ) → m < l.index → broken_at l.cells l.latests m ≡ false
