-- The classes so far are read, and the checks of the items that are left decide.
use Rattle.std.proofs.Common.{drop}
use Rattle.anvil_tree.specs.View.{file_of}
use Rattle.channel_classes.proofs.Standing.{Standing}
use Rattle.channel_classes.proofs.classes.read_classes.Given as goal

abbrev pub invariant-loop-item : goal.invariant-loop-item
invariant-loop-item l = Standing (file_of l.file) l.classes (drop l.item-index (file_of l.file))
