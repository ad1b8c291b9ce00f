use Rattle.std.proofs.Common.{◌∙◌, sym, Some, None}
use Rattle.sv_draft.specs.SeenDraft.{draft_of}
use Rattle.sv_draft.proofs.NamedPlaces.{register_ref_found}
use Rattle.sv_draft.proofs.operands.register_ref.Goals as goal

pub returns-in-Some : goal.returns-in-Some
returns-in-Some c = λ name is. register_ref_found (draft_of c.args.draft.now) c.args.key.now name (Some c.in-Some.index) is (sym c.in-Some.is ∙ c.index_of.ensures.index)

pub returns-in-None : goal.returns-in-None
returns-in-None c = λ name is. register_ref_found (draft_of c.args.draft.now) c.args.key.now name None is (sym c.in-None.is ∙ c.index_of.ensures.index)
