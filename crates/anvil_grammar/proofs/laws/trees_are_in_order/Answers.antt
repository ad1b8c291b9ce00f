-- The law is the lemma on the places that the parts of a tree pick.
use Rattle.anvil_grammar.proofs.Places.InOrder.{in_order}
use Rattle.anvil_grammar.proofs.laws.trees_are_in_order.Goals as goal

pub returns : goal.returns
returns c = in_order
