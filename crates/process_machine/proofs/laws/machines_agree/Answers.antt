use Rattle.run_laws.proofs.rereading.Agreed.{agrees}
use Rattle.process_machine.specs.Rereads.{run_of_machine}
use Rattle.process_machine.proofs.Rereads.{is_reread}
use Rattle.process_machine.proofs.laws.machines_agree.Goals as goal

pub returns : goal.returns
returns c = λ p process keeps inputs registers history machine machine_is cycle within promised.
    agrees p process keeps inputs registers history (run_of_machine machine) (is_reread p process inputs machine machine_is) cycle within promised
