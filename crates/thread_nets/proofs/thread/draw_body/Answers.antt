use Rattle.std.proofs.Common.{[], ◌∙◌}
use Rattle.thread_nets.proofs.Later.{ground_later}
use Rattle.thread_nets.proofs.Whole.{all_wait, decisions_there, body_drawn, body_plan}
use Rattle.thread_nets.proofs.thread.draw_body.Goals as goal

pub draw_term-requires : goal.draw_term-requires
draw_term-requires c =
    let new = c.new-drawn.ensures in
    ([], body_plan _ _ _ _ c.requires.ground c.requires.plan c.requires.numbered c.requires.fits new.pulses new.values new.decisions new.sides)

pub draw_pulses-requires-clause-ground : goal.draw_pulses-requires-clause-ground
draw_pulses-requires-clause-ground c =
    let new = c.new-drawn.ensures in
    let drawn = c.in_ok-_value.ensures [] (body_plan _ _ _ _ c.requires.ground c.requires.plan c.requires.numbered c.requires.fits new.pulses new.values new.decisions new.sides) in
    ground_later _ _ _ drawn.step.extends c.requires.ground

pub draw_pulses-requires-clause-so_far : goal.draw_pulses-requires-clause-so_far
draw_pulses-requires-clause-so_far c =
    let new = c.new-drawn.ensures in
    let drawn = c.in_ok-_value.ensures [] (body_plan _ _ _ _ c.requires.ground c.requires.plan c.requires.numbered c.requires.fits new.pulses new.values new.decisions new.sides) in
    drawn.step.so_far

pub draw_pulses-requires-clause-known : goal.draw_pulses-requires-clause-known
draw_pulses-requires-clause-known c =
    let new = c.new-drawn.ensures in
    let drawn = c.in_ok-_value.ensures [] (body_plan _ _ _ _ c.requires.ground c.requires.plan c.requires.numbered c.requires.fits new.pulses new.values new.decisions new.sides) in
    all_wait c.args.walk.now _ _ c.requires.ground.placed (decisions_there _ _ _ _ _ _ _ new.values drawn c.requires.plan.begin_count)

pub returns : goal.returns
returns c =
    let new = c.new-drawn.ensures in
    let drawn = c.in_ok-_value.ensures [] (body_plan _ _ _ _ c.requires.ground c.requires.plan c.requires.numbered c.requires.fits new.pulses new.values new.decisions new.sides) in
    let rest = c.in_ok-draw_pulses.ensures in
    body_drawn _ _ _ _ _ _ _ new.values drawn _ _ _ rest.step (c.len-count.ensures ∙ c.args.walk.now.setting.plan.now.nodes.ok.0) rest.reaches rest.values
