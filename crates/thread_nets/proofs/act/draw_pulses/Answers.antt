use Rattle.std.proofs.Common.{refl}
use Rattle.thread_nets.proofs.Acts.{tails_there, begun_step}
use Rattle.thread_nets.proofs.act.draw_pulses.Goals as goal

pub draw_below-requires-clause-tails : goal.draw_below-requires-clause-tails
draw_below-requires-clause-tails c = tails_there _ _ _ _ _ _ _ c.deref.ensures.value c.deref-2.ensures.value c.requires.ground.tails

pub returns-clause-step : goal.returns-clause-step
returns-clause-step c =
    let below = c.in_ok-draw_below.ensures in
    begun_step _ _ c.args.walk.now c.args.drawn.now _ _ _ _ c.deref.ensures.value c.deref-2.ensures.value c.deref-3.ensures.value below.extends c.requires.so_far refl refl refl below.longer below.kept below.so_far
