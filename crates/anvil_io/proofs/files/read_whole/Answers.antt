-- Where no memory was found, the piece that was read is counted with what stands in `into`.
use Rattle.std.proofs.Common.{arith, ◌≡◌, ◌≤◌, ◌+◌, length, take, min, length-take}
use Rattle.anvil_io.proofs.ByteLemmas.{takes_more}
use Rattle.anvil_io.proofs.files.read_whole.Goals as goal

pub returns-then-is_err-clause-lost : goal.returns-then-is_err-clause-lost
returns-then-is_err-clause-lost g c =
    let loop = c.loop-left in
    let read = c.in_ok-count.ensures in
    let asked : length (take c.min-most.result loop.buf) ≡ min c.min-most.result (length loop.buf) = length-take c.min-most.result loop.buf in
    let inside : length loop.into.items + c.in_ok-count.count ≤ c.args.limit + 1 = omega (arith, loop.invariant.within, asked, read.bound) in
    takes_more _ _ _ _ _ _ _ c.in_ok-count.count _ c.read_some.new.buf loop.invariant.lost loop.invariant.counted read.bytes.0 read.bound inside c.saturating_add.ensures
