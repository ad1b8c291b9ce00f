-- The law is a lemma.
use Rattle.exchanges.proofs.Watched.{watched}
use Rattle.exchanges.proofs.laws.watch_tells.Goals as goal

pub returns : goal.returns
returns c = watched
