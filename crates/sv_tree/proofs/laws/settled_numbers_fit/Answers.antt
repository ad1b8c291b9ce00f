-- The law, from the induction over cycles.
use Rattle.sv_tree.proofs.NumbersFit.{all_within}
use Rattle.sv_tree.proofs.laws.settled_numbers_fit.Goals as goal

pub returns : goal.returns
returns c = λ tree holds inputs fit. all_within tree holds inputs fit
