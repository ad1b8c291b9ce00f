use Rattle.module_nets.proofs.Expressions.{slice_fits, literal_within}
use Rattle.module_nets.proofs.netlist.Netlist.slice.Goals as goal

pub add-requires-clause-fits : goal.add-requires-clause-fits
add-requires-clause-fits c = slice_fits c.args.self.now c.args.operand.now c.in-Ref.of c.args.high c.args.low c.requires.stands c.in-Ref.is c.requires.ordered c.requires.within

pub slice-requires-clause-within : goal.slice-requires-clause-within
slice-requires-clause-within c = literal_within c.args.self.now c.args.operand.now c.in-Lit.number c.args.high c.requires.stands c.in-Lit.is c.requires.within

pub returns-in-Lit-clause-stands : goal.returns-in-Lit-clause-stands
returns-in-Lit-clause-stands c = c.literal.ensures.stands c.args.self.now
