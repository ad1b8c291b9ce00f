-- The search through the rest answers as the search through all entries does.
use Rattle.std.proofs.Common.{◌≡◌, length}
use Rattle.anvil_io.specs.Memory.{first_named}
use Rattle.anvil_io.specs.Entries.{entries_of}
use Rattle.anvil_io.proofs.mem_shelf.find_file.Given as goal

abbrev pub invariant-loop-rest : goal.invariant-loop-rest
invariant-loop-rest l = first_named (entries_of l.rest) l.name ≡ first_named (entries_of l.fn.files) l.name

abbrev pub decreases-loop-rest : goal.decreases-loop-rest
decreases-loop-rest l = length l.rest
