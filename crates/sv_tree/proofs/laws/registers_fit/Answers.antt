-- The law, from the induction over cycles.
use Rattle.sv_tree.proofs.NumbersFit.{registers_within}
use Rattle.sv_tree.proofs.laws.registers_fit.Goals as goal

pub returns : goal.returns
returns c = λ tree holds inputs fit cycle short. (registers_within tree holds inputs fit cycle short).1
