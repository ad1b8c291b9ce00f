-- One cell more is shown.
use Rattle.std.proofs.Common.{◌+◌, ◌∙◌, sym, arith, map}
use Rattle.core_term.specs.ProcessView.{port_of}
use Rattle.sim_laws.specs.Stands.{shown_cells}
use Rattle.source_sim.proofs.Fills.{fill_step, fill_done, shown_at, port_at}
use Rattle.sim_laws.proofs.Counts.{shown_count}
use Rattle.source_sim.proofs.parts.show_cells.Goals as goal

pub shown-requires : goal.shown-requires
shown-requires c = port_at c.args.ports.now c.loop-index.index c.index-ports-index.result (omega (arith, c.requires.cells)) c.index-ports-index.is c.requires.fit

pub loop-index-preserved : goal.loop-index-preserved
loop-index-preserved c =
    let count = shown_count c.args.ports.now c.args.drives.now c.args.latests.now c.requires.drives c.requires.latests in
    let here =
    shown_at c.args.ports.now c.args.drives.now c.args.latests.now c.loop-index.index c.index-ports-index.result c.index-drives-index.result c.index-latests-index.result c.shown.result c.requires.drives c.requires.latests (omega (arith, c.requires.cells))
    c.index-ports-index.is c.index-drives-index.is c.index-latests-index.is in
    fill_step c.loop-index.cells (shown_cells (map port_of c.args.ports.now) c.args.drives.now c.args.latests.now) c.loop-index.index (c.loop-index.index + 1) c.shown.result (omega arith) (omega (arith, c.loop-index.auto.cells))
    (omega (arith, c.loop-index.auto.cells, c.requires.cells, count)) c.loop-index.invariant (here ∙ sym c.shown.ensures)

pub returns : goal.returns
returns c =
    let count = shown_count c.args.ports.now c.args.drives.now c.args.latests.now c.requires.drives c.requires.latests in
    fill_done c.loop-index.cells (shown_cells (map port_of c.args.ports.now) c.args.drives.now c.args.latests.now) c.loop-index.index (omega (arith, c.loop-index.auto.cells, c.loop-index-test.false)) (omega (arith, c.loop-index.auto.cells, c.requires.cells, count)) c.loop-index.invariant
