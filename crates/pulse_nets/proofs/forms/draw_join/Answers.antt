use Rattle.std.proofs.Common.{◌∙◌, refl}
use Rattle.module_nets.proofs.Growing.{of_later}
use Rattle.module_nets.proofs.BitsTold.{bit_later}
use Rattle.pulse_nets.proofs.SameBits.{and_same, or_same}
use Rattle.pulse_nets.proofs.forms.draw_join.Goals as goal

pub returns-clause-known : goal.returns-clause-known
returns-clause-known c =
    let first = bit_later _ _ _ c.in_ok-both.ensures.extends c.requires.one_came in
    let second = bit_later _ _ _ c.in_ok-either.ensures.extends first in
    let third = bit_later _ _ _ c.in_ok-late.ensures.extends second in
    bit_later _ _ _ c.in_ok-pulse.ensures.extends third

pub returns-clause-tells : goal.returns-clause-tells
returns-clause-tells c =
    λ now of.
    let third = of_later _ _ now c.in_ok-pulse.ensures.extends of in
    let second = of_later _ _ now c.in_ok-late.ensures.extends third in
    let first = of_later _ _ now c.in_ok-either.ensures.extends second in
    c.in_ok-pulse.ensures.tells now of
    ∙ or_same _ _ _ _ (c.in_ok-both.ensures.tells now first) (c.in_ok-late.ensures.tells now third ∙ and_same _ _ _ _ refl (c.in_ok-either.ensures.tells now second))
