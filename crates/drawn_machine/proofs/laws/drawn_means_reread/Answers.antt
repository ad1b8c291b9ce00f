use Rattle.drawn_machine.proofs.Machine.{means_reread}
use Rattle.drawn_machine.proofs.laws.drawn_means_reread.Goals as goal

pub returns : goal.returns
returns c = means_reread
