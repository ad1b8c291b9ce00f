-- The pieces so far were put whole, and no put failed.
use Rattle.std.proofs.Common.{◌≡◌, take}
use Rattle.std.specs.Io.KnownBytes.{Appends}
use Rattle.anvil_io.specs.Causes.{joined}
use Rattle.anvil_io.proofs.pieces.put_all.Given as goal

abbrev pub invariant-loop-piece : goal.invariant-loop-piece
invariant-loop-piece g l = record {
  written : Appends (g.W.Sink.held l.fn.out) (g.W.Sink.held l.out) (joined (take l.piece-index l.pieces));
  fine : g.W.Sink.faults l.out ≡ g.W.Sink.faults l.fn.out;
}
