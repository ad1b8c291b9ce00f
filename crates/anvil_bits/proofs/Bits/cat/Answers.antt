-- The upper number moved up past the lower one and joined with it is their sum, which the widths' sum has room for.
use Rattle.std.proofs.Common.{arith}
use Rattle.anvil_bits.specs.Number.{widest}
use Rattle.anvil_bits.proofs.Word.{joined, joined_fits}
use Rattle.anvil_bits.proofs.Bits.cat.Goals as goal

pub invariant_of-result : goal.invariant_of-result
invariant_of-result c =
    let high = c.self.inside in
    let low = c.low.inside in
    let within = rw (← c.self.view_is, ← c.low.view_is) at c.requires in
    let some = c.self.invariant.0 in
    let sum = joined widest high.width low.width high.value low.value within c.self.invariant.2 c.low.invariant.2 in
    let fits = joined_fits high.width low.width high.value low.value c.self.invariant.2 c.low.invariant.2 in
    rw sum (omega arith, within, fits)

pub returns : goal.returns
returns c =
    let high = c.self.inside in
    let low = c.low.inside in
    let within = rw (← c.self.view_is, ← c.low.view_is) at c.requires in
    let sum = joined widest high.width low.width high.value low.value within c.self.invariant.2 c.low.invariant.2 in
    rw (← c.self.view_is, ← c.low.view_is, sum)
