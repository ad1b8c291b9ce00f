use Rattle.process_machine.proofs.Rereads.{is_reread}
use Rattle.process_machine.proofs.laws.machines_reread.Goals as goal

pub returns : goal.returns
returns c = is_reread
