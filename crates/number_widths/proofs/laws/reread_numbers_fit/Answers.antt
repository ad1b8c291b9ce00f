-- The law, from the induction over cycles.
use Rattle.number_widths.proofs.Runs.{numbers_fit}
use Rattle.number_widths.proofs.laws.reread_numbers_fit.Goals as goal

pub returns : goal.returns
returns c = λ name ports registers threads sized owned bodies resets inputs fit run reread. numbers_fit name ports registers threads sized owned bodies resets inputs fit run reread
