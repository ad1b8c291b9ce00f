-- The ports so far have had no exchange.
use Rattle.std.proofs.Common.{◌≡◌, map, take}
use Rattle.sim_laws.specs.WidthsFound.{start_latest}
use Rattle.source_sim.proofs.start.start_latests.Given as goal

abbrev pub invariant-loop-port : goal.invariant-loop-port
invariant-loop-port l = l.latests.items ≡ map start_latest (take l.port-index l.ports)
