use Rattle.pulse_nets.proofs.states.draw_counter.Goals as goal

pub choose-requires-clause-first : goal.choose-requires-clause-first
choose-requires-clause-first c = c.literal-all.ensures.stands c.draw_less.new.netlist
