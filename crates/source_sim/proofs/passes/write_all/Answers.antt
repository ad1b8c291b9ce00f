-- One act is written.
use Rattle.std.proofs.Common.{◌+◌, arith}
use Rattle.source_sim.proofs.Loops.{write_step, write_done}
use Rattle.source_sim.proofs.passes.write_all.Goals as goal

pub loop-act-preserved : goal.loop-act-preserved
loop-act-preserved c = record {
  left = write_step c.args.acts.now c.loop-act.act-index (c.loop-act.act-index + 1) c.act-item.result c.loop-act.nexts c.write_one.new.nexts _ (omega arith) c.loop-act-test.true c.act-item.is c.loop-act.invariant.left c.write_one.ensures;
}

pub returns : goal.returns
returns c = write_done c.args.acts.now c.loop-act.act-index c.loop-act.nexts _ c.loop-act-test.false c.loop-act.invariant.left
