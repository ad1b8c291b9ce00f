use Rattle.sv_meaning.proofs.Places.{out_stands_at}
use Rattle.sv_meaning.proofs.cycle.Cycle.show_outs.Goals as goal

pub out-requires-clause-stands : goal.out-requires-clause-stands
out-requires-clause-stands c =
    out_stands_at c.args.self.now.module.now c.outs-out-items.ensures.well_formed _ c.outs-out-items.ensures.outs c.loop-index.index c.out-item.result
    c.loop-index-test.true c.out-item.is
