-- The law is the lemma of the one tree.
use Rattle.anvil_grammar.proofs.Walked.OneTree.{one_tree}
use Rattle.anvil_grammar.proofs.laws.each_has_one_tree.Goals as goal

pub returns : goal.returns
returns c = one_tree
