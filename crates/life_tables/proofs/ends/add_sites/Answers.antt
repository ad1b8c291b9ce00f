-- One act more.
use Rattle.core_term.specs.View.{term_of}
use Rattle.life_tables.proofs.SitesRead.{has_read}
use Rattle.life_tables.proofs.EndsAdded.{acts_step}
use Rattle.life_tables.proofs.ends.add_sites.Goals as goal

pub add_site-requires-clause-inside : goal.add_site-requires-clause-inside
add_site-requires-clause-inside c = λ widths. c.requires.inside widths _ (has_read c.args.sites.now c.loop-site.site-index _ c.loop-site-test.true)

pub loop-site-preserved : goal.loop-site-preserved
loop-site-preserved c = λ widths.
    acts_step (term_of widths c.args.thread.now) c.args.sites.now c.loop-site.site-index _ c.loop-site-test.true c.args.ends.now.items c.loop-site.ends.items _ (c.loop-site.invariant widths) (c.in_ok-add_site.ensures widths)
