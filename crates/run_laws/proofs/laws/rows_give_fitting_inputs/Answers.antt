-- The law of rows that fit.
use Rattle.core_term.proofs.code_tables.FittingRows.{inputs_fit}
use Rattle.run_laws.proofs.laws.rows_give_fitting_inputs.Goals as goal

pub returns : goal.returns
returns c = inputs_fit
