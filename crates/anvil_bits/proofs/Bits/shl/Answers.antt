-- Below the width, the word's shift has wrapped at the word's width; its low bits are those of the whole product.
use Rattle.std.proofs.Common.{◌<◌, arith}
use Rattle.anvil_bits.specs.Number.{widest}
use Rattle.anvil_bits.proofs.Shifts.{left_in_word}
use Rattle.anvil_bits.proofs.Bits.shl.Goals as goal

pub returns-then-by-from : goal.returns-then-by-from
returns-then-by-from c =
    let x = c.self.inside in
    let amount = c.by.inside.value in
    let below : amount < x.width = omega arith in
    let low = left_in_word widest x.width x.value amount c.self.invariant.1 below in
    rw (← c.self.view_is, ← c.by.view_is, ← low) c.of_word.ensures
