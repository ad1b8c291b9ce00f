use Rattle.std.proofs.Common.{◌∙◌}
use Rattle.std.specs.Prelude.{bytes_eq}
use Rattle.std.proofs.lemmas.Map.Made.{is_some-lookup}
use Rattle.channel_classes.proofs.Table.{taken}
use Rattle.channel_classes.proofs.classes.Classes.is_taken.Goals as goal

pub returns : goal.returns
returns c =
    c.contains_key.ensures ∙ is_some-lookup (bytes_eq c.args.name.now) c.self.inside.table.entries
    ∙ taken _ c.args.name.now c.self.inside.table.entries c.args.self.now c.self.view_is
