-- The table of the code has the keywords of the definition.
use Rattle.std.proofs.Common.{sym, ap, ◌∙◌}
use Rattle.anvil_lexer.specs.declared.token.TokenKind.TheVariants.{Word}
use Rattle.anvil_lexer.proofs.Tables.{keyword_is, word_is}
use Rattle.anvil_lexer.proofs.table.kind_of_word.Goals as goal

pub returns-in-Some : goal.returns-in-Some
returns-in-Some c = keyword_is c.args.text.now c.in-Some.keyword (sym c.in-Some.is ∙ c.find.ensures)

pub returns-in-None : goal.returns-in-None
returns-in-None c = ap (λ n. Word n) (c.of.ensures ∙ c.as_bytes.ensures.value) ∙ word_is c.args.text.now (sym c.in-None.is ∙ c.find.ensures)
