-- The loop keeps that the pieces so far were put whole. A put that fails adds a front part of its piece, which is a front
-- part of that piece and the pieces behind it, and so of the whole text.
use Rattle.std.proofs.Common.{ℕ, List, ◌≤◌, ◌∙◌, [], Bor, arith}
use Rattle.anvil_io.specs.Causes.{Rose, joined, AppendsPrefix}
use Rattle.anvil_io.proofs.PieceLemmas.{appends_then, prefix_then, prefix_longer, joined_more, joined_at}
use Rattle.anvil_io.proofs.pieces.put_all.Goals as goal

pub returns-in-Err : goal.returns-in-Err
returns-in-Err g c =
    let failed = c.in-Err.ensures in
    let loop = c.loop-piece in
    let none_there : Bor (List ℕ) = record { ref_ptr = (0, 0); now = [] } in
    let part : AppendsPrefix (g.W.Sink.held c.args.out.now) (g.W.Sink.held c.put.new.self) (joined c.args.pieces.now) =
    rw (joined_at c.args.pieces.now loop.piece-index none_there (omega arith))
    (prefix_then _ (g.W.Sink.held loop.out) _ _ _ loop.invariant.written (prefix_longer _ _ _ _ failed.prefix)) in
    let cause : Rose (g.W.Sink.faults c.args.out.now) (g.W.Sink.faults c.put.new.self) = rw (← loop.invariant.fine) failed.cause in
    let later : g.W.Sink.faults c.args.out.now ≤ g.W.Sink.faults c.put.new.self = rw (← loop.invariant.fine) failed.later in
    record { whole = tt; part = part; cause = cause; fine = tt; later = later }

pub loop-piece-preserved : goal.loop-piece-preserved
loop-piece-preserved g c =
    let done = c.in-Ok.ensures in
    let loop = c.loop-piece in
    let none_there : Bor (List ℕ) = record { ref_ptr = (0, 0); now = [] } in
    record {
      written = rw (joined_more c.args.pieces.now loop.piece-index none_there (omega arith)) (appends_then _ (g.W.Sink.held loop.out) _ _ _ loop.invariant.written done.appends);
      fine = done.fine ∙ loop.invariant.fine;
    }
