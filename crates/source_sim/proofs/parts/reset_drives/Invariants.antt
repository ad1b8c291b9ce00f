-- Nothing is driven on the ports so far.
use Rattle.std.proofs.Common.{◌≡◌, take, map}
use Rattle.core_term.specs.ProcessView.{port_of}
use Rattle.sim_laws.specs.Stands.{no_drives}
use Rattle.source_sim.proofs.parts.reset_drives.Given as goal

abbrev pub invariant-loop-index : goal.invariant-loop-index
invariant-loop-index l = take l.index l.drives ≡ take l.index (no_drives (map port_of l.ports))
