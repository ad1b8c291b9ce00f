use Rattle.std.proofs.Common.{subst, sym}
use Rattle.demand_checks.specs.Rests.{AreRests}
use Rattle.demand_checks.proofs.judge.Judge.rests.Goals as goal

pub returns : goal.returns
returns c = subst (λ body. AreRests body c.in_ok-rests.rests.items) (sym c.thread.ensures.1) (c.in_ok-rests.ensures c.thread.ensures.0)
