use Rattle.module_nets.proofs.netlist.Netlist.equals.Goals as goal

pub bin-requires-clause-right : goal.bin-requires-clause-right
bin-requires-clause-right c = c.literal.ensures.stands c.args.self.now
