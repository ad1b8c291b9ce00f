-- Each turn of the loop has the pair at the number of turns before it.
use Rattle.std.proofs.Common.{◌≡◌, arith, zip, length}
use Rattle.std.specs.Iterator.Adapters.{zip_first, zip_second}
use Rattle.std.specs.Slice.Iter.{iter_rest}
use Rattle.std.proofs.lemmas.List.{length_push}
use Rattle.std.proofs.lemmas.Slice.Zip.{zip_turn, zip_end, length-zip}
use Rattle.sv_tree.specs.Text.{out_lines}
use Rattle.sv_writer.proofs.Lines.{line_put, line_failed, lines_done, pair_at}
use Rattle.sv_writer.proofs.outputs.put_outputs.Goals as goal

pub loop-port-preserved : goal.loop-port-preserved
loop-port-preserved g c =
    let m = c.args.module.now in
    let loop = c.loop-port in
    let begun = c.into_iter-port-iterator.result in
    let firsts : iter_rest (zip_first begun) ≡ m.ports = cc in
    let seconds : iter_rest (zip_second begun) ≡ m.outs = cc in
    let turn = zip_turn m.ports m.outs loop.yielded begun loop.port-iterator c.next.new.self c.next.result firsts seconds loop.yielded_by (c.in-Some.port, c.in-Some.output) c.in-Some.is c.next.ensures.steps in
    let there = pair_at m.ports m.outs (length loop.yielded) c.in-Some.port.now c.in-Some.output.now turn.0 turn.1 (turn.2 c.in-Some.port.now) (turn.3 c.in-Some.output.now) in
    rw (length_push loop.yielded (c.in-Some.port, c.in-Some.output))
    (line_put (out_lines m) (zip m.ports m.outs) (length loop.yielded) (c.in-Some.port.now, c.in-Some.output.now) _ (g.W.Sink.held loop.out) _ _ _ _ _ there.0 there.1 loop.invariant c.in_ok-put_output.ensures)

pub returns-in_err-put_output : goal.returns-in_err-put_output
returns-in_err-put_output g c =
    let m = c.args.module.now in
    let loop = c.loop-port in
    let begun = c.into_iter-port-iterator.result in
    let firsts : iter_rest (zip_first begun) ≡ m.ports = cc in
    let seconds : iter_rest (zip_second begun) ≡ m.outs = cc in
    let turn = zip_turn m.ports m.outs loop.yielded begun loop.port-iterator c.next.new.self c.next.result firsts seconds loop.yielded_by (c.in-Some.port, c.in-Some.output) c.in-Some.is c.next.ensures.steps in
    let there = pair_at m.ports m.outs (length loop.yielded) c.in-Some.port.now c.in-Some.output.now turn.0 turn.1 (turn.2 c.in-Some.port.now) (turn.3 c.in-Some.output.now) in
    line_failed (out_lines m) (zip m.ports m.outs) (length loop.yielded) (c.in-Some.port.now, c.in-Some.output.now) _ (g.W.Sink.held loop.out) _ _ _ _ _ _ there.0 there.1 loop.invariant c.from_residual.ensures.0 c.in_err-put_output.ensures

pub returns : goal.returns
returns g c =
    let m = c.args.module.now in
    let loop = c.loop-port in
    let begun = c.into_iter-port-iterator.result in
    let firsts : iter_rest (zip_first begun) ≡ m.ports = cc in
    let seconds : iter_rest (zip_second begun) ≡ m.outs = cc in
    let turns = zip_end m.ports m.outs loop.yielded begun loop.port-iterator c.next.new.self c.next.result firsts seconds loop.yielded_by c.in-None.is c.next.ensures.steps in
    lines_done (out_lines m) (zip m.ports m.outs) (length loop.yielded) _ _ _ _ _ (omega (arith, turns, length-zip m.ports m.outs)) loop.invariant
