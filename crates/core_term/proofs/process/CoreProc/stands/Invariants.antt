-- The bodies of the threads so far are numbered and tail-stepped.
use Rattle.std.proofs.Math.ListN.{take}
use Rattle.core_term.specs.declared.term.CoreTerm.{CoreTerm}
use Rattle.core_term.specs.Lists.{Has}
use Rattle.core_term.specs.Body.{IsBody}
use Rattle.core_term.proofs.process.CoreProc.stands.Given as goal

abbrev pub invariant-loop-thread : goal.invariant-loop-thread
invariant-loop-thread l = (body : CoreTerm) → Has (take l.thread-index l.thread-items) body → IsBody body
