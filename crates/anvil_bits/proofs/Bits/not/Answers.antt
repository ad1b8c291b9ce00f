-- The word has all its bits flipped; its low bits are the number's own, flipped.
use Rattle.anvil_bits.specs.Number.{widest}
use Rattle.anvil_bits.proofs.Word.{low_of_flipped}
use Rattle.anvil_bits.proofs.Bits.not.Goals as goal

pub returns : goal.returns
returns c =
    let x = c.self.inside in
    let low = low_of_flipped widest x.width x.value c.self.invariant.1 c.self.invariant.2 in
    rw (← c.self.view_is, ← low) c.of_word.ensures
