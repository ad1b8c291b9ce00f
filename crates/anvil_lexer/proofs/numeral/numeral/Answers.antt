-- A literal where one ends there, and else a number.
use Rattle.std.proofs.Common.{sym, ◌∙◌}
use Rattle.anvil_lexer.proofs.LiteralEnds.{literal_reads, literal_fails, number_reads, number_fails}
use Rattle.anvil_lexer.proofs.numeral.numeral.Goals as goal

pub returns-in-Ok : goal.returns-in-Ok
returns-in-Ok c =
    let read = c.split_front.ensures in
    literal_reads c.args.at _ _ _ read.passing read.left read.joined read.left_utf8 _ _ _ _ c.in-Some.ensures
    (sym c.literal.ensures ∙ c.in-Ok.is)

pub returns-in-Err : goal.returns-in-Err
returns-in-Err c =
    let read = c.split_front.ensures in
    literal_fails c.args.at _ _ _ read.passing read.left read.joined read.left_utf8 _ _ _ _ c.in-Some.ensures
    (sym c.literal.ensures ∙ c.in-Err.is)

pub returns-in-Ok-number : goal.returns-in-Ok-number
returns-in-Ok-number c =
    let read = c.split_front.ensures in
    number_reads c.args.at _ _ _ read.passing read.left read.joined read.left_utf8 _ c.in-None.ensures
    (sym c.number.ensures ∙ c.in-Ok-number.is)

pub returns-in-Err-number : goal.returns-in-Err-number
returns-in-Err-number c =
    let read = c.split_front.ensures in
    number_fails c.args.at _ _ _ read.passing read.left read.joined read.left_utf8 _ c.in-None.ensures
    (sym c.number.ensures ∙ c.in-Err-number.is)
