use Rattle.run_laws.proofs.source_runs.Shown.{shown_is, is_shown_from}
use Rattle.run_laws.proofs.laws.shown_tells.Goals as goal

pub returns : goal.returns
returns c = λ wires life m t. (shown_is wires life m t, is_shown_from wires life m t)
