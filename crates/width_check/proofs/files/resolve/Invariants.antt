-- The processes so far are read, and the checks of the items that are left decide.
use Rattle.std.proofs.Common.{drop}
use Rattle.anvil_tree.specs.View.{file_of}
use Rattle.width_check.proofs.FileSteps.{Standing}
use Rattle.width_check.proofs.files.resolve.Given as goal

abbrev pub invariant-loop-item : goal.invariant-loop-item
invariant-loop-item l = Standing l.classes (file_of l.file) l.names.keys l.procs.items (drop l.item-index (file_of l.file))
