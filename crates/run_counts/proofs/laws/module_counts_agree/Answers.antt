use Rattle.run_counts.proofs.Same.{counts_agree}
use Rattle.run_counts.proofs.laws.module_counts_agree.Goals as goal

pub returns : goal.returns
returns c = counts_agree
