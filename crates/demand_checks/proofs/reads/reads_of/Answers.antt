use Rattle.std.proofs.Common.{arith}
use Rattle.demand_checks.proofs.ReadsRead.{reads_are}
use Rattle.demand_checks.proofs.reads.reads_of.Goals as goal

pub returns : goal.returns
returns c = λ widths. reads_are widths _ _ (grind (arith, c.in_ok-add_reads.ensures, c.body.ensures.same, c.new-reads.ensures.items))
