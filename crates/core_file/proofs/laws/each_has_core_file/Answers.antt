use Rattle.core_file.proofs.CoreFiles as files
use Rattle.core_file.proofs.laws.each_has_core_file.Goals as goal

pub returns : goal.returns
returns c = files.each_has_core_file
