-- What has become of the acts is the pure step; what is kept of them goes with the widths after each part of it.
use Rattle.std.proofs.Common.{arith, rules}
use Rattle.source_sim.specs.NowSeen.{act_now}
use Rattle.source_sim.proofs.Walks.{site_within, visited_seen, act_seen, act_advanced}
use Rattle.source_sim.proofs.advance.+advance.Goals as goal

pub advance_act-inside-made-requires : goal.advance_act-inside-made-requires
advance_act-inside-made-requires t c =
    (search rules, (c.requires.fits, visited_seen c.args.now.now (act_now c.args.now.now c.args.act.now) c.args.acts.now c.visit.new.acts c.visit.ensures c.requires.fits c.requires.seen))

pub advance_act-close-requires : goal.advance_act-close-requires
advance_act-close-requires t c =
    let within = site_within c.args.now.now c.args.act.now.site c.args.act.now.kind c.args.acts.now c.requires.fits c.requires.seen in
    omega (arith, within, c.visit.auto.acts, c.inside-made.auto.acts)

pub advance_act-returns-clause-step : goal.advance_act-returns-clause-step
advance_act-returns-clause-step t c =
    act_advanced c.args.now.now c.args.act.now.site c.args.act.now.kind c.args.acts.now c.visit.new.acts c.inside-made.new.acts c.close.new.acts c.inside-made.result c.close.result
    c.visit.ensures c.inside-made.ensures c.close.ensures

pub advance_act-returns-clause-seen : goal.advance_act-returns-clause-seen
advance_act-returns-clause-seen t c =
    act_seen c.args.now.now (act_now c.args.now.now c.args.act.now) c.args.acts.now c.close.new.acts c.close.result
    (act_advanced c.args.now.now c.args.act.now.site c.args.act.now.kind c.args.acts.now c.visit.new.acts c.inside-made.new.acts c.close.new.acts c.inside-made.result c.close.result c.visit.ensures c.inside-made.ensures c.close.ensures)
    c.requires.fits c.requires.seen
