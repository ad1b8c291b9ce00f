-- The bytes before the first line feed, and what stands behind it.
use Rattle.std.proofs.Common.{arith}
use Rattle.stim_text.proofs.LinesCut.{piece_found, all_quiet}
use Rattle.stim_text.proofs.lines.first_piece.Goals as goal

pub returns-then-count-text : goal.returns-then-count-text
returns-then-count-text c = all_quiet c.args.text.now _ c.line_len-count.ensures.count c.if-count-text.true

pub returns : goal.returns
returns c = piece_found c.args.text.now _ _ c.line_len-count.result c.line_len-count.ensures.count c.split_at.ensures.front c.split_at.ensures.back (let other = c.if-count-text.false in let within = c.line_len-count.ensures.within in omega (arith, other, within))
