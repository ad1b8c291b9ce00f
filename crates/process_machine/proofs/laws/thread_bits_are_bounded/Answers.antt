use Rattle.process_machine.proofs.StateBits.{thread_within}
use Rattle.process_machine.proofs.laws.thread_bits_are_bounded.Goals as goal

pub returns : goal.returns
returns c = thread_within
