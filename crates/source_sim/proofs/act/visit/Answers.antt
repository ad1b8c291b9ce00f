-- The act that is reached has a state, which is written anew.
use Rattle.source_sim.specs.NowSeen.{act_now}
use Rattle.source_sim.proofs.Walks.{site_within, reached, again, first}
use Rattle.source_sim.proofs.act.visit.Goals as goal

pub bounds-acts-site : goal.bounds-acts-site
bounds-acts-site c = site_within c.args.now.now c.args.act.now.site c.args.act.now.kind c.args.acts.now c.requires.fits c.requires.seen

pub bounds-acts-site-then-old : goal.bounds-acts-site-then-old
bounds-acts-site-then-old c = site_within c.args.now.now c.args.act.now.site c.args.act.now.kind c.args.acts.now c.requires.fits c.requires.seen

pub bounds-acts-site-else-old : goal.bounds-acts-site-else-old
bounds-acts-site-else-old c = site_within c.args.now.now c.args.act.now.site c.args.act.now.kind c.args.acts.now c.requires.fits c.requires.seen

pub returns-then-old : goal.returns-then-old
returns-then-old c =
    reached c.args.now.now c.args.act.now.site c.args.act.now.kind c.args.acts.now c.index-acts-site.result c.go_on.result
    (site_within c.args.now.now c.args.act.now.site c.args.act.now.kind c.args.acts.now c.requires.fits c.requires.seen) c.index-acts-site.is
    (again c.args.now.now (act_now c.args.now.now c.args.act.now) c.args.acts.now c.index-acts-site.result c.go_on.result c.if-old.true c.go_on.ensures)

pub returns-else-old : goal.returns-else-old
returns-else-old c =
    reached c.args.now.now c.args.act.now.site c.args.act.now.kind c.args.acts.now c.index-acts-site.result c.begin.result
    (site_within c.args.now.now c.args.act.now.site c.args.act.now.kind c.args.acts.now c.requires.fits c.requires.seen) c.index-acts-site.is
    (first c.args.now.now (act_now c.args.now.now c.args.act.now) c.args.acts.now c.index-acts-site.result c.begin.result c.if-old.false c.begin.ensures)
