-- Both turns were elaborated, and the site is that of an act.
use Rattle.std.proofs.Common.{refl, false, true}
use Rattle.core_term.specs.View.{term_of}
use Rattle.life_tables.proofs.EndsAdded.{no_widths, act_added}
use Rattle.life_tables.proofs.ends.add_site.Goals as goal

pub points-requires : goal.points-requires
points-requires c = let there = (c.requires.twice no_widths).acts false c.args.site (c.requires.inside no_widths) in rw there refl

pub points-requires-2 : goal.points-requires-2
points-requires-2 c = let there = (c.requires.twice no_widths).acts true c.args.site (c.requires.inside no_widths) in rw there refl

pub returns : goal.returns
returns c = λ widths.
    act_added (term_of widths c.args.thread.now) c.args.elab.now (c.requires.twice widths) c.args.site (c.requires.inside widths) c.args.ends.now.items c.push.new.self.items c.push-2.new.self.items
    c.points.result c.points-2.result c.points.ensures c.points-2.ensures c.in_ok-push.ensures.items c.in_ok-push-2.ensures.items
