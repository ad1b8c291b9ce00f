use Rattle.run_laws.proofs.rereading.SameLogs.{same_log}
use Rattle.run_laws.proofs.agreement.logs_are_same.Goals as goal

pub returns : goal.returns
returns c = λ p process accepted inputs registers history run again. same_log p process accepted inputs registers history run again
