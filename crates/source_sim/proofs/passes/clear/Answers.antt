-- One act more is set back.
use Rattle.std.proofs.Common.{◌∙◌, arith}
use Rattle.source_sim.proofs.Loops.{cleared_set, clear_step, clear_done}
use Rattle.source_sim.proofs.passes.clear.Goals as goal

pub loop-index-preserved : goal.loop-index-preserved
loop-index-preserved c = record {
  same = cleared_set c.loop-index.acts c.loop-index.index c.index-acts-index.result ∙ c.loop-index.invariant.same;
  before = clear_step c.loop-index.acts c.args.acts.now c.loop-index.index _ c.index-acts-index.result (omega arith) (omega arith) c.loop-index.invariant.same c.loop-index.invariant.before;
}

pub returns : goal.returns
returns c = clear_done c.loop-index.acts c.args.acts.now c.loop-index.index (omega arith) c.loop-index-test.false c.loop-index.invariant.before
