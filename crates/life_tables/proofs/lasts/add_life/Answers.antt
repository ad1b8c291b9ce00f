-- The life lasts from the end of the act, with the ends of its port.
use Rattle.std.proofs.Common.{refl, false}
use Rattle.core_term.specs.AcceptedFile.{process_in}
use Rattle.life_tables.specs.Lives.{body_in}
use Rattle.life_tables.proofs.EndsAdded.{no_widths}
use Rattle.life_tables.proofs.LastsFilled.{from_there, life_there}
use Rattle.life_tables.proofs.lasts.add_life.Goals as goal

pub points-from-requires : goal.points-from-requires
points-from-requires c = let there = (c.requires.setting.twice no_widths).acts false c.args.site (c.requires.inside no_widths) in rw there refl

pub add-requires-clause-from : goal.add-requires-clause-from
add-requires-clause-from c =
    let setting = c.args.setting.now in
    from_there (body_in no_widths setting) setting.elab.now (c.requires.setting.twice no_widths) (c.requires.setting.numbered no_widths) c.args.site (c.requires.inside no_widths) c.points-from.result c.points-from.ensures

pub returns-clause-added : goal.returns-clause-added
returns-clause-added c = λ widths.
    let setting = c.args.setting.now in
    life_there (process_in setting.proc.now) (body_in widths setting) setting.elab.now (c.requires.setting.twice widths) c.add.new.self c.args.site c.args.port (c.requires.inside widths)
    c.points-from.result c.points-from.ensures c.in_ok-ends.ends.now (c.in_ok-ends.ensures widths) c.in_ok-add.ensures.added
