-- The net at an index stands there with the index as its number.
use Rattle.std.proofs.Common.{arith}
use Rattle.std.specs.List.{enumerate_from}
use Rattle.std.proofs.lemmas.List.FromFn.{length-enumerate_from}
use Rattle.sv_tree.specs.Text.{net_lines}
use Rattle.sv_writer.proofs.Lines.{line_put, line_failed, lines_done, numbered_at}
use Rattle.sv_writer.proofs.nets.put_nets.Goals as goal

pub loop-place-preserved : goal.loop-place-preserved
loop-place-preserved g c =
    let loop = c.loop-place in
    let items = c.nets-net-items.result.now in
    let net = c.net-item in
    let there = numbered_at items loop.place net.result (omega arith) net.is in
    line_put (net_lines c.args.module.now) (enumerate_from 0 items) loop.place (loop.place, net.result) _ (g.W.Sink.held loop.out) _ _ _ _ _ there.0 there.1 loop.invariant c.in_ok-put_net.ensures

pub returns-in_err-put_net : goal.returns-in_err-put_net
returns-in_err-put_net g c =
    let loop = c.loop-place in
    let items = c.nets-net-items in
    let net = c.net-item in
    let there = numbered_at items.result.now loop.place net.result (omega arith) net.is in
    rw (← items.ensures.nets)
    (line_failed (net_lines c.args.module.now) (enumerate_from 0 items.result.now) loop.place (loop.place, net.result) _ (g.W.Sink.held loop.out) _ _ _ _ _ _ there.0 there.1 loop.invariant c.from_residual.ensures.0 c.in_err-put_net.ensures)

pub returns : goal.returns
returns g c =
    let loop = c.loop-place in
    let items = c.nets-net-items in
    rw (← items.ensures.nets)
    (lines_done (net_lines c.args.module.now) (enumerate_from 0 items.result.now) loop.place _ _ _ _ _ (omega (arith, length-enumerate_from 0 items.result.now)) loop.invariant)
