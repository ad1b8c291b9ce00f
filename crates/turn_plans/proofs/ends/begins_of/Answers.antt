use Rattle.std.proofs.Common.{◌<◌, subst}
use Rattle.turn_plans.proofs.NoWidths.{no_widths, site_there}
use Rattle.turn_plans.proofs.ends.begins_of.Goals as goal

pub points-requires : goal.points-requires
points-requires c =
    site_there _ c.args.elab.now c.loop-site.site (c.requires no_widths) (let counted = c.count-site-end.ensures.size no_widths in subst (λ n. c.loop-site.site < n) counted c.loop-site-test.true)
