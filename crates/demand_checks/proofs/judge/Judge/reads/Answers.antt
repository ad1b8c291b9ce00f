use Rattle.std.proofs.Common.{subst, sym}
use Rattle.demand_checks.specs.Reads.{AreReads}
use Rattle.demand_checks.proofs.judge.Judge.reads.Goals as goal

pub returns : goal.returns
returns c = subst (λ body. AreReads body c.in_ok-reads.reads.items) (sym c.thread.ensures.1) (c.in_ok-reads.ensures c.thread.ensures.0)
