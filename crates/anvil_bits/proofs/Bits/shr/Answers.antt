-- Below the width, the quotient is no larger than the number, so that cutting it to the width changes nothing.
use Rattle.std.proofs.Common.{◌<◌, arith}
use Rattle.anvil_bits.proofs.Shifts.{right_in_word}
use Rattle.anvil_bits.proofs.Bits.shr.Goals as goal

pub returns-then-by-from : goal.returns-then-by-from
returns-then-by-from c =
    let x = c.self.inside in
    let amount = c.by.inside.value in
    let below : amount < x.width = omega arith in
    let low = right_in_word x.width x.value amount c.self.invariant.2 below in
    rw (← c.self.view_is, ← c.by.view_is, ← low) c.of_word.ensures
