use Rattle.std.proofs.Common.{sym, ◌∙◌}
use Rattle.sv_lines.proofs.read.GoodNames.{name_is_text, name_is_short}
use Rattle.sv_pieces.proofs.names.good_name.Goals as goal

pub of-requires-clause-few : goal.of-requires-clause-few
of-requires-clause-few c = name_is_short c.args.text.now (sym c.is_name.ensures ∙ c.if-is_name.true)

pub of-requires-clause-utf8 : goal.of-requires-clause-utf8
of-requires-clause-utf8 c = name_is_text c.args.text.now (sym c.is_name.ensures ∙ c.if-is_name.true)
