use Rattle.run_laws.proofs.rereading.Breaks.{breaks_alike}
use Rattle.run_laws.proofs.agreement.promises_break_alike.Goals as goal

pub returns : goal.returns
returns c = λ p process accepted inputs registers history run again t short earlier. breaks_alike p process accepted inputs registers history run again t short earlier
