-- The acts so far have not begun.
use Rattle.std.proofs.Common.{◌≡◌, map, take}
use Rattle.sim_laws.specs.WidthsFound.{start_state}
use Rattle.source_sim.proofs.start.start_acts.Given as goal

abbrev pub invariant-loop-width : goal.invariant-loop-width
invariant-loop-width l = l.acts.items ≡ map start_state (take l.width-index l.widths)
