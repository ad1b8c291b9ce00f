use Rattle.turn_machine.proofs.TailEnds.{tail_ends_are}
use Rattle.turn_machine.proofs.laws.tail_ends_are_read.Goals as goal

pub returns : goal.returns
returns c = tail_ends_are
