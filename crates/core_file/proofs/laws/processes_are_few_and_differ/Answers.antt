use Rattle.core_file.proofs.Files as files
use Rattle.core_file.proofs.laws.processes_are_few_and_differ.Goals as goal

pub returns : goal.returns
returns c = files.processes_are_few_and_differ
