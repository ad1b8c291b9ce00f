-- Behind the wire's own name stands nothing.
use Rattle.std.proofs.Common.{append-nil}
use Rattle.sv_writer.proofs.header.put_wire_line.Goals as goal

pub returns : goal.returns
returns g c =
    rw (← c.direction.ensures, ← c.bytes.ensures.bytes, ← c.bytes-2.ensures.bytes) (simp append-nil at c.put_pieces.ensures)
