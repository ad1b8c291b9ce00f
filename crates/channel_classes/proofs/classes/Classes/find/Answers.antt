use Rattle.std.proofs.Common.{◌∙◌, sym}
use Rattle.channel_classes.proofs.Table.{found}
use Rattle.channel_classes.proofs.classes.Classes.find.Goals as goal

pub returns-in-Some : goal.returns-in-Some
returns-in-Some c = sym c.in-Some.is ∙ c.get_index_of.ensures.index ∙ found _ c.args.name.now c.self.inside.table.entries c.args.self.now c.self.view_is

pub returns-in-None : goal.returns-in-None
returns-in-None c = sym c.in-None.is ∙ c.get_index_of.ensures.index ∙ found _ c.args.name.now c.self.inside.table.entries c.args.self.now c.self.view_is
