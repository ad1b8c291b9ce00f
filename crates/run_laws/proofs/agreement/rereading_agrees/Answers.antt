use Rattle.run_laws.proofs.rereading.Agreed.{agrees}
use Rattle.run_laws.proofs.agreement.rereading_agrees.Goals as goal

pub returns : goal.returns
returns c = λ p process accepted inputs registers history run again t short promised. agrees p process accepted inputs registers history run again t short promised
