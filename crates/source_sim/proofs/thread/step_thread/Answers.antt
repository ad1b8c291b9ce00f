-- What is kept of the acts goes with the widths after the term has gone on.
use Rattle.source_sim.specs.NowSeen.{term_now}
use Rattle.source_sim.proofs.Walks.{term_seen}
use Rattle.source_sim.proofs.thread.step_thread.Goals as goal

pub begin_turn-requires-clause-seen : goal.begin_turn-requires-clause-seen
begin_turn-requires-clause-seen c =
    term_seen c.args.now.now (term_now c.args.now.now c.args.body.now) c.args.acts.now c.advance.new.acts c.advance.result c.advance.ensures c.requires.fits c.requires.seen

pub returns-in-None-clause-seen : goal.returns-in-None-clause-seen
returns-in-None-clause-seen c =
    term_seen c.args.now.now (term_now c.args.now.now c.args.body.now) c.args.acts.now c.advance.new.acts c.advance.result c.advance.ensures c.requires.fits c.requires.seen
