use Rattle.core_term.proofs.code_tables.Fits.{is_process}
use Rattle.run_laws.proofs.laws.core_process_is_process.Goals as goal

pub returns : goal.returns
returns c = λ name ports registers threads sized owned bodies. is_process name ports registers threads sized owned bodies
