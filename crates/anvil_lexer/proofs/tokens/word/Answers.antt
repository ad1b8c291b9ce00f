-- The run of characters is the identifier, whose first character goes on with one too.
use Rattle.anvil_lexer.proofs.Lexemes.{name_some, name_long, name_reads}
use Rattle.anvil_lexer.proofs.tokens.word.Goals as goal

pub returns-then-name-gt-LONGEST_NAME : goal.returns-then-name-gt-LONGEST_NAME
returns-then-name-gt-LONGEST_NAME c =
    let read = c.split_front.ensures in
    name_long c.args.at _ _ _ c.requires read.utf8 read.passing read.left read.joined read.left_utf8 c.if-name-gt-LONGEST_NAME.true

pub kind_of_word-requires-clause-some : goal.kind_of_word-requires-clause-some
kind_of_word-requires-clause-some c =
    let read = c.split_front.ensures in
    name_some c.args.at _ _ _ c.requires read.utf8 read.passing read.left read.joined read.left_utf8

pub returns : goal.returns
returns c =
    let read = c.split_front.ensures in
    rw c.kind_of_word.ensures
    (name_reads c.args.at _ _ _ c.requires read.utf8 read.passing read.left read.joined read.left_utf8 c.if-name-gt-LONGEST_NAME.false)
