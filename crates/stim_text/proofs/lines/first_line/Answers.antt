-- A line with its end, or a last piece without one.
use Rattle.std.proofs.Common.{◌≡◌, ◌<◌, arith, sym, subst, length}
use Rattle.stim_text.specs.Cut.{CutsLine}
use Rattle.stim_text.proofs.LinesCut.{cuts_there, cuts_piece, some_length}
use Rattle.stim_text.proofs.lines.first_line.Goals as goal

pub returns-in-Some : goal.returns-in-Some
returns-in-Some c =
    subst (λ line. CutsLine c.args.text.now line c.in-Some.rest.now) (sym c.without_return.ensures) (cuts_there c.args.text.now c.in-Some.front.now c.in-Some.rest.now c.in-Some.ensures.0 c.in-Some.ensures.1)

pub returns-else-is_empty : goal.returns-else-is_empty
returns-else-is_empty c = cuts_piece c.args.text.now c.in-None.ensures (some_length (length c.args.text.now) c.if-is_empty.ensures)
