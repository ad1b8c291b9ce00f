use Rattle.std.proofs.Common.{refl}
use Rattle.sv_draft.proofs.header.may_end.Goals as goal

pub returns-then-comma : goal.returns-then-comma
returns-then-comma c = rw (c.if-comma.true) c.has_room.ensures

pub returns-else-comma : goal.returns-else-comma
returns-else-comma c = rw (c.if-comma.false) refl
