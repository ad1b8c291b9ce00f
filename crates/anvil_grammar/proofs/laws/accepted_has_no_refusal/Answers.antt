-- The law is the lemma on refusals.
use Rattle.anvil_grammar.proofs.Refused.Refusals.{accepted_has_no_refusal}
use Rattle.anvil_grammar.proofs.laws.accepted_has_no_refusal.Goals as goal

pub returns : goal.returns
returns c = accepted_has_no_refusal
