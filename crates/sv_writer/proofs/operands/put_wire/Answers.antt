-- Behind the last piece stands nothing.
use Rattle.std.proofs.Common.{append-nil}
use Rattle.sv_writer.proofs.operands.put_wire.Goals as goal

pub returns : goal.returns
returns g c =
    rw (← c.bytes.ensures.bytes, ← c.bytes-2.ensures.bytes) (simp append-nil at c.put_all.ensures)
