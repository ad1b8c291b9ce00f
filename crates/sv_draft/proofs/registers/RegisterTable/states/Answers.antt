use Rattle.sv_draft.proofs.NamedPlaces.{states_below}
use Rattle.sv_draft.proofs.registers.RegisterTable.states.Goals as goal

pub returns-clause-few : goal.returns-clause-few
returns-clause-few c = rw (c.self.invariant.1) (states_below c.self.inside.regs.items c.self.invariant.2)
