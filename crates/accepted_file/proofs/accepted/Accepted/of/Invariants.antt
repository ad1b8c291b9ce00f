-- The processes so far are those of the definitions.
use Rattle.std.proofs.Math.ListN.{take}
use Rattle.core_term.specs.AcceptedFile.{AllStand}
use Rattle.accepted_file.proofs.accepted.Accepted.of.Given as goal

abbrev pub invariant-loop-proc : goal.invariant-loop-proc
invariant-loop-proc l = AllStand (take l.proc-index l.proc-items)
