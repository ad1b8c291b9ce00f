-- The lines of the processes so far stand behind the class of the channel.
use Rattle.std.proofs.Common.{◌≡◌}
use Rattle.generated_file.specs.Generated.{generated}
use Rattle.generated_file.proofs.file.generate.Given as goal

abbrev pub invariant-loop-index : goal.invariant-loop-index
invariant-loop-index l = l.text.items ≡ generated l.index
