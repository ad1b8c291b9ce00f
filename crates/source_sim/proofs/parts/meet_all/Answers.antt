-- One exchange more is found.
use Rattle.std.proofs.Common.{◌+◌, ◌∙◌, sym, arith}
use Rattle.sim_laws.specs.Stands.{all_meet}
use Rattle.source_sim.proofs.Fills.{fill_step, fill_done, met_at}
use Rattle.sim_laws.proofs.Counts.{met_count}
use Rattle.source_sim.proofs.parts.meet_all.Goals as goal

pub loop-index-preserved : goal.loop-index-preserved
loop-index-preserved c =
    let count = met_count c.args.cells.now c.args.drives.now c.requires.drives in
    let here = met_at c.args.cells.now c.args.drives.now c.loop-index.index c.index-cells-index.result c.index-drives-index.result c.meets.result c.requires.drives (omega (arith, c.requires.exchanged)) c.index-cells-index.is c.index-drives-index.is in
    fill_step c.loop-index.exchanged (all_meet c.args.cells.now c.args.drives.now) c.loop-index.index (c.loop-index.index + 1) c.meets.result (omega arith) (omega (arith, c.loop-index.auto.exchanged)) (omega (arith, c.loop-index.auto.exchanged, c.requires.exchanged, count)) c.loop-index.invariant
    (here ∙ sym c.meets.ensures)

pub returns : goal.returns
returns c =
    let count = met_count c.args.cells.now c.args.drives.now c.requires.drives in
    fill_done c.loop-index.exchanged (all_meet c.args.cells.now c.args.drives.now) c.loop-index.index (omega (arith, c.loop-index.auto.exchanged, c.loop-index-test.false)) (omega (arith, c.loop-index.auto.exchanged, c.requires.exchanged, count)) c.loop-index.invariant
