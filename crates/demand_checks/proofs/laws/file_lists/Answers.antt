use Rattle.demand_checks.proofs.FileList.{listed}
use Rattle.demand_checks.proofs.laws.file_lists.Goals as goal

pub returns : goal.returns
returns c = listed
