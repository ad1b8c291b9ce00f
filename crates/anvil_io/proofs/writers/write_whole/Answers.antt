-- What a write took is the next part of the piece.
use Rattle.std.proofs.Common.{arith, length, take, drop, ◌≤◌, ◌-◌, ◌≡◌, length-drop}
use Rattle.std.proofs.lemmas.List.{take_all}
use Rattle.std.specs.Io.KnownBytes.{Appends}
use Rattle.anvil_io.proofs.ByteLemmas.{appends_part}
use Rattle.anvil_io.proofs.writers.write_whole.Goals as goal

pub loop-at-preserved : goal.loop-at-preserved
loop-at-preserved g c =
    let loop = c.loop-at in
    let wrote = c.in-Ok.ensures in
    let piece = c.args.bytes.now in
    let rest_length : length (drop loop.at piece) ≡ length piece - loop.at = length-drop loop.at piece in
    let rest_whole : take (length piece - loop.at) (drop loop.at piece) ≡ drop loop.at piece = take_all (length piece - loop.at) (drop loop.at piece) (omega (arith, rest_length)) in
    let within : c.in-Ok.count ≤ length (drop loop.at piece) = rw (← rest_whole) wrote.bound in
    let part : Appends (g.W.Write.contents loop.to) (g.W.Write.contents c.write_some.new.to) (take c.in-Ok.count (drop loop.at piece)) = rw (← rest_whole) wrote.bytes in
    record {
      reached = omega (arith, within, rest_length, loop.invariant.reached);
      written = appends_part _ (g.W.Write.contents loop.to) _ loop.at c.in-Ok.count piece loop.invariant.written part;
    }
