-- One port more is found.
use Rattle.std.proofs.Common.{◌+◌, ◌∙◌, sym, arith}
use Rattle.stim_text.specs.Passing.{all_show}
use Rattle.stim_text.proofs.Filling.{fill_step, fill_done, shown_at, shown_count}
use Rattle.stim_text.proofs.passing.show_all.Goals as goal

pub loop-index-preserved : goal.loop-index-preserved
loop-index-preserved c =
    let count = shown_count c.args.cells.now c.args.outs.now c.args.latests.now c.requires.outs c.requires.latests in
    let here =
    shown_at c.args.cells.now c.args.outs.now c.args.latests.now c.loop-index.index c.index-cells-index.result c.index-outs-index.result c.index-latests-index.result c.shows.result c.requires.outs c.requires.latests (omega (arith, c.requires.shown))
    c.index-cells-index.is c.index-outs-index.is c.index-latests-index.is in
    fill_step c.loop-index.shown (all_show c.args.cells.now c.args.outs.now c.args.latests.now) c.loop-index.index (c.loop-index.index + 1) c.shows.result (omega arith) (omega (arith, c.loop-index.auto.shown))
    (omega (arith, c.loop-index.auto.shown, c.requires.shown, count)) c.loop-index.invariant (here ∙ sym c.shows.ensures)

pub returns : goal.returns
returns c =
    let count = shown_count c.args.cells.now c.args.outs.now c.args.latests.now c.requires.outs c.requires.latests in
    fill_done c.loop-index.shown (all_show c.args.cells.now c.args.outs.now c.args.latests.now) c.loop-index.index (omega (arith, c.loop-index.auto.shown, c.loop-index-test.false)) (omega (arith, c.loop-index.auto.shown, c.requires.shown, count)) c.loop-index.invariant
