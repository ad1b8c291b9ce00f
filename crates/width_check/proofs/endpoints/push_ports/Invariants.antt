-- The ports of the messages so far stand behind the others.
use Rattle.std.proofs.Common.{◌≡◌, ◌++◌, map, take}
use Rattle.core_term.specs.ProcessView.{port_of as seen}
use Rattle.core_file.specs.CoreProcess.{port_of}
use Rattle.width_check.proofs.endpoints.push_ports.Given as goal

abbrev pub invariant-loop-message : goal.invariant-loop-message
invariant-loop-message l = map seen l.table ≡ map seen l.initial.table ++ map (port_of l.endpoint l.base) (take l.message-index l.messages)
