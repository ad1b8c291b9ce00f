-- What the word has borrowed beyond the width is a multiple of 2 ^ width, which its low bits forget.
use Rattle.std.proofs.Common.{◌<◌, ◌^◌}
use Rattle.anvil_bits.specs.Number.{widest}
use Rattle.anvil_bits.proofs.Word.{low_of_difference}
use Rattle.anvil_bits.proofs.Bits.sub.Goals as goal

pub returns : goal.returns
returns c =
    let x = c.self.inside in
    let y = c.other.inside in
    let same = rw (← c.self.view_is, ← c.other.view_is) at c.requires in
    let below : y.value < 2 ^ x.width = rw same c.other.invariant.2 in
    let low = low_of_difference widest x.width x.value y.value c.self.invariant.1 below in
    rw (← c.self.view_is, ← c.other.view_is, ← low) c.of_word.ensures
