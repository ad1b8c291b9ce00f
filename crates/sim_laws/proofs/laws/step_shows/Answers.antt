-- The law is a lemma.
use Rattle.sim_laws.proofs.RowsTaken.{shows_told}
use Rattle.sim_laws.proofs.laws.step_shows.Goals as goal

pub returns : goal.returns
returns c = shows_told
