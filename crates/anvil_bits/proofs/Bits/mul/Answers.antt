-- The word's product has wrapped at the word's width; its low bits are those of the whole product.
use Rattle.std.proofs.Common.{◌*◌}
use Rattle.anvil_bits.specs.Number.{widest}
use Rattle.anvil_bits.proofs.Word.{low_of_wrapped}
use Rattle.anvil_bits.proofs.Bits.mul.Goals as goal

pub returns : goal.returns
returns c =
    let x = c.self.inside in
    let y = c.other.inside in
    let low = low_of_wrapped widest x.width (x.value * y.value) c.self.invariant.1 in
    rw (← c.self.view_is, ← c.other.view_is, ← low) c.of_word.ensures
