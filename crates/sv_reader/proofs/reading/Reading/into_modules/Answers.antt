-- Behind a module that is begun no list of modules is whole.
use Rattle.std.proofs.Common.{refl}
use Rattle.sv_reader.proofs.reading.Reading.into_modules.Goals as goal

pub returns-in-None : goal.returns-in-None
returns-in-None c = rw (c.in-None.is, c.into_modules.ensures) refl

pub returns-in-Some : goal.returns-in-Some
returns-in-Some c = λ modules is. let other = rw c.in-Some.is at is in absurd cc
