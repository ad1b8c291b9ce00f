-- The cells so far are shown.
use Rattle.std.proofs.Common.{◌≡◌, take, map}
use Rattle.core_term.specs.ProcessView.{port_of}
use Rattle.sim_laws.specs.Stands.{shown_cells}
use Rattle.source_sim.proofs.parts.show_cells.Given as goal

abbrev pub invariant-loop-index : goal.invariant-loop-index
invariant-loop-index l = take l.index l.cells ≡ take l.index (shown_cells (map port_of l.ports) l.drives l.latests)
