use Rattle.process_machine.proofs.TurnMachines.{is_thread_machine}
use Rattle.process_machine.proofs.laws.turn_machines_are_threads.Goals as goal

pub returns : goal.returns
returns c = is_thread_machine
