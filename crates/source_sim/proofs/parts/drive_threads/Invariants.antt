-- What the threads that are left drive is what all drive.
use Rattle.std.proofs.Common.{◌≡◌, drop, map}
use Rattle.sim_laws.specs.Stands.{drive_threads as driven}
use Rattle.source_sim.proofs.parts.drive_threads.Given as goal

abbrev pub invariant-loop-thread : goal.invariant-loop-thread
invariant-loop-thread l = driven (map (λ kept. kept.acts) (drop l.thread-index l.threads)) l.drives ≡ driven (map (λ kept. kept.acts) l.threads) l.fn.drives
