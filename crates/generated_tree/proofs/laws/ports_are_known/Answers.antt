-- The law is the lemma of the ports.
use Rattle.generated_tree.proofs.Ports.{ports_are_known}
use Rattle.generated_tree.proofs.laws.ports_are_known.Goals as goal

pub returns : goal.returns
returns c = ports_are_known
