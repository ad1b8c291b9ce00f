use Rattle.run_laws.proofs.safe_runs.SafeRun.{safe, no_violations}
use Rattle.run_laws.proofs.safety.without_violations_runs_are_safe.Goals as goal

pub returns : goal.returns
returns c = λ file violations i p nth process inputs registers history. safe p process (no_violations file violations i p nth) inputs registers
