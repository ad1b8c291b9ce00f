-- What an error of the system means for a load.
use Rattle.std.specs.declared.io.ErrorKind.{ErrorKind}
use Rattle.std.specs.declared.io.ErrorKind.TheVariants.{OutOfMemory}
use Rattle.anvil_io.specs.declared.outside.LoadErr.{LoadErr}
use Rattle.anvil_io.specs.declared.outside.LoadErr.TheVariants.{Fault, NoMemory}

-- the system has no memory, or the shelf failed
abbrev pub refusal_of : ErrorKind → LoadErr
refusal_of OutOfMemory = NoMemory
refusal_of _ = Fault
