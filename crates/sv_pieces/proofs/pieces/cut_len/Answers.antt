use Rattle.std.proofs.Common.{arith}
use Rattle.sv_lines.proofs.read.CutLoop.{look_ended}
use Rattle.sv_pieces.proofs.pieces.cut_len.Goals as goal

pub returns-else-count-text : goal.returns-else-count-text
returns-else-count-text c = look_ended c.args.text.now c.loop-count.count c.loop-count.invariant (omega arith)
