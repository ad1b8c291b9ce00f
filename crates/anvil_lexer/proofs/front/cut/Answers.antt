-- The cut falls where the end begins.
use Rattle.std.proofs.Common.{◌++◌, sym, ◌∙◌, ap, subst}
use Rattle.std.specs.Str.{IsUtf8}
use Rattle.anvil_lexer.proofs.Reading.{end_long, end_is, end_cut, end_boundary, before_utf8}
use Rattle.anvil_lexer.proofs.front.cut.Goals as goal

pub overflow_sub-text : goal.overflow_sub-text
overflow_sub-text c = end_long _ _ c.requires

pub split_at-requires : goal.split_at-requires
split_at-requires c = end_boundary _ _ c.utf8.end c.requires

pub returns-clause-left : goal.returns-clause-left
returns-clause-left c = c.split_at.ensures.back ∙ end_is _ _ c.requires

pub returns-clause-joined : goal.returns-clause-joined
returns-clause-joined c = end_cut _ _ c.requires ∙ ap (λ l. l ++ c.args.end.now) (sym c.split_at.ensures.front)

pub returns-clause-utf8 : goal.returns-clause-utf8
returns-clause-utf8 c = subst IsUtf8 (sym c.split_at.ensures.front) (before_utf8 _ _ c.utf8.text c.utf8.end c.requires)
