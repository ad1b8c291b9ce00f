use Rattle.machine_meaning.proofs.Meaning.{meaning}
use Rattle.machine_meaning.proofs.laws.machines_give_meaning.Goals as goal

pub returns : goal.returns
returns c = λ p process tree gives inputs fit. let machine = gives inputs fit in meaning p process tree inputs machine.0 machine.1 machine.2
