-- The law is the lemma on the places that acts pick.
use Rattle.anvil_grammar.proofs.Places.ActsInOrder.{acts_in_order}
use Rattle.anvil_grammar.proofs.laws.acts_are_in_order.Goals as goal

pub returns : goal.returns
returns c = λ tokens file rising is. acts_in_order is rising
