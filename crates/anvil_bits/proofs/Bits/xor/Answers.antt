-- Still a number of the width: no 1 stands above the width in either number, so the two do not differ there.
use Rattle.std.proofs.Common.{◌<◌, ◌^◌}
use Rattle.std.proofs.lemmas.Nat.{xor_lt}
use Rattle.anvil_bits.proofs.Bits.xor.Goals as goal

pub invariant_of-result : goal.invariant_of-result
invariant_of-result c =
    let x = c.self.inside in
    let y = c.other.inside in
    let same = rw (← c.self.view_is, ← c.other.view_is) at c.requires in
    let below : y.value < 2 ^ x.width = rw same c.other.invariant.2 in
    let fits = xor_lt x.width x.value y.value c.self.invariant.2 below in
    (c.self.invariant.0, c.self.invariant.1, fits)
