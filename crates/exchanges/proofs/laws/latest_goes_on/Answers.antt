-- The law is a lemma.
use Rattle.exchanges.proofs.GoesOn.{goes_on}
use Rattle.exchanges.proofs.laws.latest_goes_on.Goals as goal

pub returns : goal.returns
returns c = goes_on
