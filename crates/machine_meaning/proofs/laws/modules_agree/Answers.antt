-- The law is the lemma on the module.
use Rattle.machine_meaning.proofs.Agreement.{module_agrees}
use Rattle.machine_meaning.proofs.laws.modules_agree.Goals as goal

pub returns : goal.returns
returns c = module_agrees
