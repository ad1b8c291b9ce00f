-- What stands before the end that is left is the front.
use Rattle.std.proofs.Common.{sym, subst}
use Rattle.std.specs.Str.{IsUtf8}
use Rattle.anvil_lexer.specs.Characters.{belongs}
use Rattle.anvil_lexer.proofs.Reading.{front_is}
use Rattle.anvil_lexer.proofs.front.split_front.Goals as goal

pub returns-clause-passing : goal.returns-clause-passing
returns-clause-passing c = front_is (belongs c.args.class) _ _ _ c.cut.ensures.utf8 c.cut.ensures.joined c.after_front.ensures.left

pub returns-clause-left_utf8 : goal.returns-clause-left_utf8
returns-clause-left_utf8 c = subst IsUtf8 (sym c.cut.ensures.left) c.after_front.utf8
