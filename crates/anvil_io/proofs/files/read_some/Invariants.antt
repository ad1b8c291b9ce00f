-- A read that was interrupted took nothing of what the reader had left.
use Rattle.std.specs.Io.KnownBytes.{Keeps}
use Rattle.anvil_io.proofs.files.read_some.Given as goal

abbrev pub invariant-loop : goal.invariant-loop
invariant-loop g l = Keeps (g.F.Read.remaining l.fn.file) (g.F.Read.remaining l.file)
