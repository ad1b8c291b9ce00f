use Rattle.run_laws.proofs.safe_runs.NoViolations.{from_empty, to_empty}
use Rattle.run_laws.proofs.laws.no_violations_keeps_demands.Goals as goal

pub returns : goal.returns
returns c = λ file. (from_empty file, to_empty file)
