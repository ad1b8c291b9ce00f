use Rattle.std.proofs.Common.{◌∙◌, ap, sym, Some}
use Rattle.channel_classes.proofs.Table.{messages_at}
use Rattle.channel_classes.proofs.classes.Classes.messages.Goals as goal

pub returns : goal.returns
returns c =
    let at = rw c.in-Some.is at c.get_index.ensures.entry in
    messages_at _ c.self.inside.table.entries c.args.self.now c.args.class _ c.self.view_is at ∙ ap Some (sym c.as_slice.ensures.value)
