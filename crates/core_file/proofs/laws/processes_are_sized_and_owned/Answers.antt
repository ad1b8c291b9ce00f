use Rattle.core_file.proofs.Files as files
use Rattle.core_file.proofs.laws.processes_are_sized_and_owned.Goals as goal

pub returns : goal.returns
returns c = files.processes_are_sized_and_owned
