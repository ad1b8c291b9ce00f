use Rattle.run_laws.proofs.source_runs.SameRuns.{registers_same}
use Rattle.run_laws.proofs.source_runs.SameWires.{wires_same}
use Rattle.run_laws.proofs.laws.runs_agree_while_rows_do.Goals as goal

pub returns : goal.returns
returns c = λ p inputs other registers registers' history history' n rows. (
  λ t l r. registers_same p inputs other registers registers' history history' n rows t r l,
  λ t l. wires_same p inputs other registers registers' history history' n rows t l,
)
