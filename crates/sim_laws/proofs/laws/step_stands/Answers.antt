-- The law is a lemma.
use Rattle.sim_laws.proofs.RowsTaken.{step_told}
use Rattle.sim_laws.proofs.laws.step_stands.Goals as goal

pub returns : goal.returns
returns c = step_told
