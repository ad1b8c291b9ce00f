-- A word under a mask of as many ones as the width is the word modulo 2 ^ width, which is below that power.
use Rattle.std.proofs.Common.{◌^◌}
use Rattle.std.proofs.lemmas.Nat.{mod_below, pow_pos}
use Rattle.anvil_bits.specs.Number.{widest}
use Rattle.anvil_bits.proofs.Word.{masked}
use Rattle.anvil_bits.proofs.Bits.of_word.Goals as goal

pub invariant_of-result : goal.invariant_of-result
invariant_of-result c =
    let fits = mod_below c.args.word (2 ^ c.args.width) (pow_pos c.args.width) in
    rw (masked widest c.args.width c.args.word c.requires.at_most) (c.requires.at_least, c.requires.at_most, fits)

pub returns : goal.returns
returns c = rw (masked widest c.args.width c.args.word c.requires.at_most)
