-- What the threads that are left write is what all write.
use Rattle.std.proofs.Common.{◌≡◌, drop, map}
use Rattle.sim_laws.specs.Stands.{write_threads as written}
use Rattle.source_sim.proofs.parts.write_threads.Given as goal

abbrev pub invariant-loop-thread : goal.invariant-loop-thread
invariant-loop-thread l = written (map (λ kept. kept.acts) (drop l.thread-index l.threads)) l.registers ≡ written (map (λ kept. kept.acts) l.threads) l.fn.registers
