-- What is found among the processes that are left is what is found among all.
use Rattle.std.proofs.Common.{◌≡◌, drop, map}
use Rattle.core_file.specs.CoreFile.{placed_of}
use Rattle.checked_files.specs.Named.{process_named}
use Rattle.checked_files.proofs.process.find_process.Given as goal

abbrev pub invariant-loop-index : goal.invariant-loop-index
invariant-loop-index l = process_named l.fn.name (map placed_of (drop l.index l.fn.core.procs.items)) ≡ process_named l.fn.name (map placed_of l.fn.core.procs.items)
