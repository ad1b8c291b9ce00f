-- Acts that were set back are seen as well.
use Rattle.source_sim.specs.NowSeen.{term_now}
use Rattle.source_sim.proofs.Walks.{cleared_seen, term_seen, turn_begun}
use Rattle.source_sim.proofs.thread.begin_turn.Goals as goal

pub advance-requires-clause-seen : goal.advance-requires-clause-seen
advance-requires-clause-seen c = cleared_seen c.args.now.now c.args.acts.now c.clear.new.acts c.clear.ensures c.requires.seen

pub returns-clause-acts : goal.returns-clause-acts
returns-clause-acts c = turn_begun c.args.now.now (term_now c.args.now.now c.args.body.now) c.args.acts.now c.clear.new.acts c.advance.new.acts c.advance.result c.clear.ensures c.advance.ensures

pub returns-clause-seen : goal.returns-clause-seen
returns-clause-seen c =
    term_seen c.args.now.now (term_now c.args.now.now c.args.body.now) c.clear.new.acts c.advance.new.acts c.advance.result c.advance.ensures c.requires.fits
    (cleared_seen c.args.now.now c.args.acts.now c.clear.new.acts c.clear.ensures c.requires.seen)
