use Rattle.run_laws.proofs.safe_runs.SafeRun.{safe}
use Rattle.run_laws.proofs.safety.accepted_runs_are_safe.Goals as goal

pub returns : goal.returns
returns c = λ p process accepted inputs registers history. safe p process accepted inputs registers
