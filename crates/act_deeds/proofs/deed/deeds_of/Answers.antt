use Rattle.std.proofs.Common.{arith}
use Rattle.act_deeds.proofs.DeedsRead.{deeds_are, few_deeds}
use Rattle.act_deeds.proofs.deed.deeds_of.Goals as goal

pub returns-clause-deeds : goal.returns-clause-deeds
returns-clause-deeds c = λ widths. deeds_are widths _ (c.body.ensures.body.numbered widths) _ (grind (arith, c.in_ok-add_deeds.ensures, c.body.ensures.same, c.new-deeds.ensures.items))

pub returns-clause-few : goal.returns-clause-few
returns-clause-few c = few_deeds _ c.body.ensures.body _ (grind (arith, c.in_ok-add_deeds.ensures, c.body.ensures.same, c.new-deeds.ensures.items))
