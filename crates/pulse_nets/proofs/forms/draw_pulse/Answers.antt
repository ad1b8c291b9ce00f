use Rattle.std.proofs.Common.{subst}
use Rattle.std.proofs.lemmas.List.{get_or_default}
use Rattle.module_nets.specs.Bits.{IsBit}
use Rattle.module_nets.proofs.BitsTold.{bit_later}
use Rattle.pulse_nets.specs.Pulses.{IsDrawn, no_pulse}
use Rattle.pulse_nets.proofs.forms.draw_pulse.Goals as goal

pub draw_join-requires-clause-second : goal.draw_join-requires-clause-second
draw_join-requires-clause-second c =
    let drawn_both : IsDrawn c.args.netlist.now c.args.before.now c.in-Join.first × IsDrawn c.args.netlist.now c.args.before.now c.in-Join.second = rw c.in-Join.is at c.requires.before in
    let later = bit_later _ _ _ c.in_ok-one_came-in-Join.ensures.extends drawn_both.1.1 in
    subst (λ drawn. IsBit c.draw_one_came.new.netlist drawn.pulse) (get_or_default c.args.before.now c.in-Join.second no_pulse c.index-before-second.result drawn_both.1.0) later
