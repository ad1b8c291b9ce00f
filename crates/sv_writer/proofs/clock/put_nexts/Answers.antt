-- Each turn of the loop has the pair at the number of turns before it.
use Rattle.std.proofs.Common.{◌≡◌, arith, zip, length}
use Rattle.std.specs.Iterator.Adapters.{zip_first, zip_second}
use Rattle.std.specs.Slice.Iter.{iter_rest}
use Rattle.std.proofs.lemmas.List.{length_push}
use Rattle.std.proofs.lemmas.Slice.Zip.{zip_turn, zip_end, length-zip}
use Rattle.sv_tree.specs.Text.{next_line}
use Rattle.sv_writer.proofs.Lines.{line_put, line_failed, lines_done, pair_at}
use Rattle.sv_writer.proofs.clock.put_nexts.Goals as goal

pub loop-register-preserved : goal.loop-register-preserved
loop-register-preserved g c =
    let m = c.args.module.now in
    let loop = c.loop-register in
    let begun = c.into_iter-register-iterator.result in
    let firsts : iter_rest (zip_first begun) ≡ m.regs = cc in
    let seconds : iter_rest (zip_second begun) ≡ m.nexts = cc in
    let turn = zip_turn m.regs m.nexts loop.yielded begun loop.register-iterator c.next.new.self c.next.result firsts seconds loop.yielded_by (c.in-Some.register, c.in-Some.next) c.in-Some.is c.next.ensures.steps in
    let there = pair_at m.regs m.nexts (length loop.yielded) c.in-Some.register.now c.in-Some.next.now turn.0 turn.1 (turn.2 c.in-Some.register.now) (turn.3 c.in-Some.next.now) in
    rw (length_push loop.yielded (c.in-Some.register, c.in-Some.next))
    (line_put (next_line m) (zip m.regs m.nexts) (length loop.yielded) (c.in-Some.register.now, c.in-Some.next.now) _ (g.W.Sink.held loop.out) _ _ _ _ _ there.0 there.1 loop.invariant c.in_ok-put_set.ensures)

pub returns-in_err-put_set : goal.returns-in_err-put_set
returns-in_err-put_set g c =
    let m = c.args.module.now in
    let loop = c.loop-register in
    let begun = c.into_iter-register-iterator.result in
    let firsts : iter_rest (zip_first begun) ≡ m.regs = cc in
    let seconds : iter_rest (zip_second begun) ≡ m.nexts = cc in
    let turn = zip_turn m.regs m.nexts loop.yielded begun loop.register-iterator c.next.new.self c.next.result firsts seconds loop.yielded_by (c.in-Some.register, c.in-Some.next) c.in-Some.is c.next.ensures.steps in
    let there = pair_at m.regs m.nexts (length loop.yielded) c.in-Some.register.now c.in-Some.next.now turn.0 turn.1 (turn.2 c.in-Some.register.now) (turn.3 c.in-Some.next.now) in
    line_failed (next_line m) (zip m.regs m.nexts) (length loop.yielded) (c.in-Some.register.now, c.in-Some.next.now) _ (g.W.Sink.held loop.out) _ _ _ _ _ _ there.0 there.1 loop.invariant c.from_residual.ensures.0 c.in_err-put_set.ensures

pub returns : goal.returns
returns g c =
    let m = c.args.module.now in
    let loop = c.loop-register in
    let begun = c.into_iter-register-iterator.result in
    let firsts : iter_rest (zip_first begun) ≡ m.regs = cc in
    let seconds : iter_rest (zip_second begun) ≡ m.nexts = cc in
    let turns = zip_end m.regs m.nexts loop.yielded begun loop.register-iterator c.next.new.self c.next.result firsts seconds loop.yielded_by c.in-None.is c.next.ensures.steps in
    lines_done (next_line m) (zip m.regs m.nexts) (length loop.yielded) _ _ _ _ _ (omega (arith, turns, length-zip m.regs m.nexts)) loop.invariant
