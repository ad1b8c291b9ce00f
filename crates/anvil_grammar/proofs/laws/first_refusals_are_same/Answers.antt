-- The law is the lemma on first refusals.
use Rattle.anvil_grammar.proofs.Refused.Refusals.{first_refusals_same}
use Rattle.anvil_grammar.proofs.laws.first_refusals_are_same.Goals as goal

pub returns : goal.returns
returns c = first_refusals_same
