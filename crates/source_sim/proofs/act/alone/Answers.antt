-- The act has a state.
use Rattle.source_sim.proofs.Walks.{site_within}
use Rattle.source_sim.proofs.act.alone.Goals as goal

pub bounds-acts-act : goal.bounds-acts-act
bounds-acts-act c = site_within c.args.now.now c.args.act.now.site c.args.act.now.kind c.args.acts.now c.requires.fits c.requires.seen
