use Rattle.std.proofs.Common.{Some, None}
use Rattle.sv_pieces.specs.Seen.{declared_of}
use Rattle.sv_draft.specs.SeenDraft.{draft_of}
use Rattle.sv_draft.specs.Reached.{reached_of}
use Rattle.sv_draft.proofs.ItemLines.{item_read}
use Rattle.sv_draft.proofs.step.item_step.Goals as goal

pub returns-in-Some : goal.returns-in-Some
returns-in-Some c =
    item_read (reached_of c.declared_step.new.draft) (draft_of c.args.draft.now) c.args.line.now (Some (declared_of c.in-Some.declared)) c.declared_step.result
    c.in-Some.ensures.declaration c.declared_step.ensures

pub returns-in-None : goal.returns-in-None
returns-in-None c =
    item_read (reached_of c.output_step.new.draft) (draft_of c.args.draft.now) c.args.line.now None c.output_step.result c.in-None.ensures.declaration c.output_step.ensures
