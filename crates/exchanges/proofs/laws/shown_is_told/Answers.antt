-- The law is a lemma.
use Rattle.exchanges.proofs.Promises.{shown_told}
use Rattle.exchanges.proofs.laws.shown_is_told.Goals as goal

pub returns : goal.returns
returns c = shown_told
