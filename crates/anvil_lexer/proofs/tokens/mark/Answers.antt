-- A mark of two characters, else one of one, else none.
use Rattle.std.proofs.Common.{sym, ◌∙◌}
use Rattle.anvil_lexer.proofs.Lexemes.{two_mark, one_mark, no_mark}
use Rattle.anvil_lexer.proofs.tokens.mark.Goals as goal

pub returns-in-Some : goal.returns-in-Some
returns-in-Some c =
    let two = c.split_count.ensures in
    two_mark _ _ _ two.utf8 two.taken _ two.left_utf8 two.left two.joined (sym c.mark_spelled.ensures ∙ c.in-Some.is)

pub returns-in-Some-mark_spelled : goal.returns-in-Some-mark_spelled
returns-in-Some-mark_spelled c =
    let two = c.split_count.ensures in
    let one = c.split_count-2.ensures in
    one_mark _ _ c.split_count.result.1.now two.utf8 two.taken _ _ one.utf8 one.taken
    (sym c.mark_spelled.ensures ∙ c.in_default.is) _ one.left_utf8 one.left one.joined
    (sym c.mark_spelled-2.ensures ∙ c.in-Some-mark_spelled.is)

pub returns-in-None : goal.returns-in-None
returns-in-None c =
    let two = c.split_count.ensures in
    let one = c.split_count-2.ensures in
    no_mark _ _ c.split_count.result.1.now two.utf8 two.taken _ c.split_count-2.result.1.now one.utf8 one.taken
    (sym c.mark_spelled.ensures ∙ c.in_default.is) (sym c.mark_spelled-2.ensures ∙ c.in-None.is)
