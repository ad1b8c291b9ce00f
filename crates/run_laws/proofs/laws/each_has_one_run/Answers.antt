use Rattle.std.proofs.Common.{arith}
use Rattle.core_term.specs.History.{history}
use Rattle.run_laws.proofs.source_runs.Exists.{is_history, same_rows}
use Rattle.run_laws.proofs.source_runs.SameRuns.{registers_same}
use Rattle.run_laws.proofs.laws.each_has_one_run.Goals as goal

pub returns : goal.returns
returns c = λ p inputs. (is_history p inputs, λ other is_other t l r. registers_same p inputs inputs (history p inputs) other (is_history p inputs) is_other t (same_rows inputs t l) t r (omega arith))
