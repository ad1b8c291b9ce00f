use Rattle.demand_checks.proofs.FileList.{first_of}
use Rattle.demand_checks.proofs.laws.first_of_file.Goals as goal

pub returns : goal.returns
returns c = first_of
