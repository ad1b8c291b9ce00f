-- A put that fails does so inside one piece.
use Rattle.std.proofs.Common.{arith}
use Rattle.sv_writer.specs.Pieces.{piece_text}
use Rattle.sv_writer.proofs.Lines.{line_failed}
use Rattle.sv_writer.proofs.pieces.put_pieces.Goals as goal

pub returns-in_err-put_piece : goal.returns-in_err-put_piece
returns-in_err-put_piece g c =
    let loop = c.loop-piece in
    line_failed (piece_text c.args.module.now) c.args.pieces.now loop.piece-index c.piece-item.result _ (g.W.Sink.held loop.out) _ _ _ _ _ _ (omega arith) c.piece-item.is loop.invariant c.from_residual.ensures.0 c.in_err-put_piece.ensures
