-- The name's bytes are those of the module's process.
use Rattle.sv_writer.proofs.header.put_opening.Goals as goal

pub returns : goal.returns
returns g c = rw (← c.proc.ensures.proc, ← c.bytes.ensures.bytes) c.put_all.ensures
