-- So far the reader lost exactly what stands in `into`, the count rose by that, and with what is left it makes the limit
-- and one byte more.
use Rattle.std.proofs.Common.{◌≡◌, ◌+◌, length}
use Rattle.std.specs.Io.KnownBytes.{Consumes}
use Rattle.anvil_io.specs.Causes.{raised}
use Rattle.anvil_io.proofs.files.read_whole.Given as goal

abbrev pub invariant-loop-left : goal.invariant-loop-left
invariant-loop-left g l = record {
  lost : Consumes (g.F.Read.remaining l.fn.file) (g.F.Read.remaining l.file) l.into.items;
  within : length l.into.items + l.left ≡ l.limit + 1;
  counted : l.taken ≡ raised l.fn.taken (length l.into.items);
}

abbrev pub decreases-loop-left : goal.decreases-loop-left
decreases-loop-left g l = l.left
