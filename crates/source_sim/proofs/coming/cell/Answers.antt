-- A row that fits has a cell for each port.
use Rattle.source_sim.proofs.Walks.{cell_within, nth_cell_at}
use Rattle.std.proofs.Common.{refl}
use Rattle.source_sim.proofs.coming.cell.Goals as goal

pub bounds-now-port : goal.bounds-now-port
bounds-now-port c = cell_within c.args.now.now.ports.now c.args.now.now.cells.now c.args.port c.requires.cells c.requires.port

pub returns : goal.returns
returns c =
    nth_cell_at c.args.now.now.cells.now c.args.port c.index-now-port.result _ (cell_within c.args.now.now.ports.now c.args.now.now.cells.now c.args.port c.requires.cells c.requires.port) refl
