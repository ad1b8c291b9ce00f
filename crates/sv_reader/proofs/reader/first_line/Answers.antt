-- The bytes before the first line feed are a line.
use Rattle.std.proofs.Common.{arith}
use Rattle.sv_lines.proofs.answer.LineCut.{line_found, piece_quiet}
use Rattle.sv_reader.proofs.reader.first_line.Goals as goal

pub returns-then-count-text : goal.returns-then-count-text
returns-then-count-text c = piece_quiet c.args.text.now _ c.line_len-count.ensures.count c.if-count-text.true

pub returns : goal.returns
returns c = line_found c.args.text.now _ _ c.line_len-count.result c.line_len-count.ensures.count c.split_at.ensures.front c.split_at.ensures.back (let other = c.if-count-text.false in let within = c.line_len-count.ensures.within in omega (arith, other, within))
