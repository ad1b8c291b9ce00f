-- The processes so far have their modules.
use Rattle.std.proofs.Common.{take}
use Rattle.core_term.specs.AcceptedFile.{file_of}
use Rattle.tool_stages.specs.Output.{AreModules}
use Rattle.tool_commands.proofs.modules.modules_of.Given as goal

abbrev pub invariant-loop-proc : goal.invariant-loop-proc
invariant-loop-proc l = AreModules (file_of (take l.proc-index l.fn.procs)) l.modules.items
