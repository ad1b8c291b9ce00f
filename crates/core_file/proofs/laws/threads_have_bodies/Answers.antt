use Rattle.core_file.proofs.Files as files
use Rattle.core_file.proofs.laws.threads_have_bodies.Goals as goal

pub returns : goal.returns
returns c = files.threads_have_bodies
