-- The pieces so far were put whole.
use Rattle.std.proofs.Common.{take}
use Rattle.sv_writer.specs.Pieces.{pieces_text}
use Rattle.sv_writer.proofs.Lines.{LinesPut}
use Rattle.sv_writer.proofs.pieces.put_pieces.Given as goal

abbrev pub invariant-loop-piece : goal.invariant-loop-piece
invariant-loop-piece g l = LinesPut (g.W.Sink.held l.fn.out) (g.W.Sink.held l.out) (g.W.Sink.faults l.fn.out) (g.W.Sink.faults l.out) (pieces_text l.module (take l.piece-index l.pieces))
