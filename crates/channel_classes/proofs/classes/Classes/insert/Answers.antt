use Rattle.std.proofs.Common.{◌∙◌, ◌++◌, ◌∷◌, [], ap, map}
use Rattle.std.specs.Prelude.{bytes_eq}
use Rattle.indexmap.proofs.CallerLemmas.{insert_entry-new}
use Rattle.channel_classes.proofs.Table.{absent, entry_class, map_more}
use Rattle.channel_classes.proofs.classes.Classes.insert.Goals as goal

pub returns-in-Ok : goal.returns-in-Ok
returns-in-Ok c =
    let table = c.self.inside.table in
    let none = absent _ c.args.name table.entries c.args.self.now c.self.view_is c.requires.fresh in
    ap (map (entry_class _)) (c.in-Ok.ensures.entries ∙ insert_entry-new bytes_eq table c.args.name c.args.messages none)
    ∙ map_more (entry_class _) table.entries (c.args.name, c.args.messages)
    ∙ ap (λ classes. classes ++ (record { name = c.args.name; messages = c.args.messages.items } ∷ [])) c.self.view_is
