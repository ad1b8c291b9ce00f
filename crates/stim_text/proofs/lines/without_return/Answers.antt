-- A carriage return is cut off where the line ends in one.
use Rattle.stim_text.proofs.LinesCut.{return_cut, no_return_cut}
use Rattle.stim_text.proofs.lines.without_return.Goals as goal

pub returns-in-Some : goal.returns-in-Some
returns-in-Some c = return_cut c.args.line.now c.in-Some.front.now c.in-Some.ensures.cases.0 c.in-Some.ensures.cases.1

pub returns-in-None : goal.returns-in-None
returns-in-None c = no_return_cut c.args.line.now c.in-None.ensures.cases
