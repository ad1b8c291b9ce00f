-- One exchange more is found.
use Rattle.std.proofs.Common.{◌+◌, ◌∙◌, sym, arith}
use Rattle.stim_text.specs.Passing.{all_meet}
use Rattle.stim_text.proofs.Filling.{fill_step, fill_done, met_at, met_count}
use Rattle.stim_text.proofs.passing.meet_all.Goals as goal

pub loop-index-preserved : goal.loop-index-preserved
loop-index-preserved c =
    let count = met_count c.args.cells.now c.args.outs.now c.requires.outs in
    let here = met_at c.args.cells.now c.args.outs.now c.loop-index.index c.index-cells-index.result c.index-outs-index.result c.meets.result c.requires.outs (omega (arith, c.requires.exchanged)) c.index-cells-index.is c.index-outs-index.is in
    fill_step c.loop-index.exchanged (all_meet c.args.cells.now c.args.outs.now) c.loop-index.index (c.loop-index.index + 1) c.meets.result (omega arith) (omega (arith, c.loop-index.auto.exchanged)) (omega (arith, c.loop-index.auto.exchanged, c.requires.exchanged, count)) c.loop-index.invariant
    (here ∙ sym c.meets.ensures)

pub returns : goal.returns
returns c =
    let count = met_count c.args.cells.now c.args.outs.now c.requires.outs in
    fill_done c.loop-index.exchanged (all_meet c.args.cells.now c.args.outs.now) c.loop-index.index (omega (arith, c.loop-index.auto.exchanged, c.loop-index-test.false)) (omega (arith, c.loop-index.auto.exchanged, c.requires.exchanged, count)) c.loop-index.invariant
