-- The exchanges so far are found.
use Rattle.std.proofs.Common.{◌≡◌, take}
use Rattle.sim_laws.specs.Stands.{all_meet}
use Rattle.source_sim.proofs.parts.meet_all.Given as goal

abbrev pub invariant-loop-index : goal.invariant-loop-index
invariant-loop-index l = take l.index l.exchanged ≡ take l.index (all_meet l.cells l.drives)
