-- The pieces so far stand behind what was there.
use Rattle.std.proofs.Common.{◌≡◌, ◌++◌, take}
use Rattle.anvil_io.specs.Causes.{joined}
use Rattle.generated_file.proofs.file.push_all.Given as goal

abbrev pub invariant-loop-piece : goal.invariant-loop-piece
invariant-loop-piece l = l.text.items ≡ l.fn.text.items ++ joined (take l.piece-index l.pieces)
