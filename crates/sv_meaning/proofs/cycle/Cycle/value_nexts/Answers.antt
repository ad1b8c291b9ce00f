use Rattle.sv_meaning.proofs.Places.{next_stands_at}
use Rattle.sv_meaning.proofs.cycle.Cycle.value_nexts.Goals as goal

pub operand-requires-clause-stands : goal.operand-requires-clause-stands
operand-requires-clause-stands c =
    next_stands_at c.args.self.now.module.now c.nexts-next-items.ensures.well_formed _ c.nexts-next-items.ensures.nexts c.args.nets.now c.requires.nets
    c.loop-next.next-index c.next-item.result c.loop-next-test.true c.next-item.is
