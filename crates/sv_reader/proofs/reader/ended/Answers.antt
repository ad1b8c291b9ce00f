-- Nothing is left behind the last line here, so the whole text is read.
use Rattle.std.proofs.Common.{ap, arith}
use Rattle.sv_reader.specs.declared.error.SvErr.TheVariants.{NotEmitted}
use Rattle.sv_reader.proofs.reader.ended.Goals as goal

pub returns-in-Some : goal.returns-in-Some
returns-in-Some c = (omega arith, c.in-Some.ensures)

pub returns-in-None : goal.returns-in-None
returns-in-None c = (ap NotEmitted (omega arith), λ nothing modules. c.in-None.ensures modules)
