-- The law is a lemma.
use Rattle.exchanges.proofs.Promises.{told}
use Rattle.exchanges.proofs.laws.promise_is_told.Goals as goal

pub returns : goal.returns
returns c = told
