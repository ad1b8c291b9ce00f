-- By the first character: an identifier, digits or a mark.
use Rattle.std.proofs.Common.{sym, ◌∙◌}
use Rattle.anvil_lexer.proofs.Lexemes.{first_begins, scanned_name, scanned_digits, scanned_mark, reads_next, mark_next}
use Rattle.anvil_lexer.specs.Scan.{none_there}
use Rattle.anvil_lexer.proofs.tokens.token.Goals as goal

pub word-requires : goal.word-requires
word-requires c = first_begins _ _ c.requires (sym c.begins_identifier.ensures ∙ c.if-begins_identifier.true)

pub returns-then-begins_identifier : goal.returns-then-begins_identifier
returns-then-begins_identifier c =
    reads_next _ _ _ c.word.result
    (scanned_name _ _ c.requires (sym c.begins_identifier.ensures ∙ c.if-begins_identifier.true)) c.word.ensures

pub returns-then-has : goal.returns-then-has
returns-then-has c = reads_next _ _ _ c.numeral.result (scanned_digits _ _ c.requires (sym c.has.ensures ∙ c.if-has.true)) c.numeral.ensures

pub returns-in-Some : goal.returns-in-Some
returns-in-Some c =
    let scanned = scanned_mark _ _ c.requires (sym c.begins_identifier.ensures ∙ c.if-begins_identifier.false)
    (sym c.has.ensures ∙ c.if-has.false) in
    mark_next _ _ _ _ scanned c.in-Some.ensures

pub returns-in-None : goal.returns-in-None
returns-in-None c =
    let scanned = scanned_mark _ _ c.requires (sym c.begins_identifier.ensures ∙ c.if-begins_identifier.false)
    (sym c.has.ensures ∙ c.if-has.false) in
    none_there (scanned ∙ c.in-None.ensures)
