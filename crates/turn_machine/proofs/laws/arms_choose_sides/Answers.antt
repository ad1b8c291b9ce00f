use Rattle.core_term.specs.Term.{head}
use Rattle.turn_machine.proofs.Choosing.{chosen}
use Rattle.turn_machine.proofs.laws.arms_choose_sides.Goals as goal

pub returns : goal.returns
returns c = λ body arms node_of have decision scope term stands. chosen arms node_of decision (head term) (have scope term stands)
