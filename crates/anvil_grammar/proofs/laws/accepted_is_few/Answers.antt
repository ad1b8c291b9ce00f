-- The law is the lemma on the counts of the tree.
use Rattle.anvil_grammar.proofs.Refused.Parsed.{accepted_few}
use Rattle.anvil_grammar.proofs.laws.accepted_is_few.Goals as goal

pub returns : goal.returns
returns c = accepted_few
