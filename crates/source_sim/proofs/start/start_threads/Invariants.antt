-- The threads so far are as they start.
use Rattle.std.proofs.Common.{◌≡◌, map, take}
use Rattle.sim_laws.specs.WidthsFound.{start_of}
use Rattle.source_sim.proofs.start.start_threads.Given as goal

abbrev pub invariant-loop-thread : goal.invariant-loop-thread
invariant-loop-thread l = l.threads.items ≡ map (start_of l.ports l.regs) (take l.thread-index l.bodies)
