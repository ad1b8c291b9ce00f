-- The law is a lemma.
use Rattle.sim_laws.proofs.RowsTaken.{new_told}
use Rattle.sim_laws.proofs.laws.new_stands.Goals as goal

pub returns : goal.returns
returns c = new_told
