use Rattle.core_file.proofs.CoreFiles as files
use Rattle.core_file.proofs.laws.core_file_is_one.Goals as goal

pub returns : goal.returns
returns c = files.core_file_is_one
