-- The first check that fails is the refusal, or memory was refused.
use Rattle.anvil_tree.specs.View.{file_of}
use Rattle.checked_files.proofs.Checks.{unchecked_by_classes, unchecked_by_processes}
use Rattle.checked_files.proofs.front.core_of_file.Goals as goal

pub returns-in-Err-clause-refused : goal.returns-in-Err-clause-refused
returns-in-Err-clause-refused c = rw c.of_classes.ensures (unchecked_by_classes (file_of c.args.file.now) c.in-Err.fault c.in-Err.ensures)

pub returns-clause-refused : goal.returns-clause-refused
returns-clause-refused c = rw c.of_processes.ensures (unchecked_by_processes (file_of c.args.file.now) c.in-Err-resolve.fault c.in-Ok.ensures.0 c.in-Err-resolve.ensures)
