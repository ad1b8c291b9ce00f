-- What one act drives is marked.
use Rattle.std.proofs.Common.{◌+◌, arith}
use Rattle.source_sim.proofs.Loops.{drive_step, drive_done}
use Rattle.source_sim.proofs.passes.drive_all.Goals as goal

pub loop-act-preserved : goal.loop-act-preserved
loop-act-preserved c = record {
  left = drive_step c.args.acts.now c.loop-act.act-index (c.loop-act.act-index + 1) c.act-item.result c.loop-act.drives c.drive_one.new.drives _ (omega arith) c.loop-act-test.true c.act-item.is c.loop-act.invariant.left c.drive_one.ensures;
}

pub returns : goal.returns
returns c = drive_done c.args.acts.now c.loop-act.act-index c.loop-act.drives _ c.loop-act-test.false c.loop-act.invariant.left
