-- The law is the lemma on the module.
use Rattle.machine_meaning.proofs.Agreement.{module_logs}
use Rattle.machine_meaning.proofs.laws.module_logs_are_same.Goals as goal

pub returns : goal.returns
returns c = module_logs
