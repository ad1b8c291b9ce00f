-- The table of the code has the marks of the definition.
use Rattle.std.proofs.Common.{◌∙◌}
use Rattle.anvil_lexer.proofs.Tables.{mark_is}
use Rattle.anvil_lexer.proofs.table.mark_spelled.Goals as goal

pub returns : goal.returns
returns c = c.find.ensures ∙ mark_is c.args.text.now
