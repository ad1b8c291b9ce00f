use Rattle.demand_checks.proofs.Merge.{merge}
use Rattle.demand_checks.proofs.laws.lists_merge.Goals as goal

pub returns : goal.returns
returns c = merge
