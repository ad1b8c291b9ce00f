use Rattle.thread_nets.specs.Walk.{widths_at}
use Rattle.thread_nets.proofs.Own.{own_next, own_inside, own_fits, own_bit, own_kept, own_pulse, choice_drawn, plain_drawn}
use Rattle.thread_nets.proofs.act.draw_own.Goals as goal

pub draw_to_begin-requires-clause-next : goal.draw_to_begin-requires-clause-next
draw_to_begin-requires-clause-next c = own_next _ _ _ _ c.requires.0 _ c.args.act.now.kind c.requires.1

pub draw_to_begin-requires-clause-inside : goal.draw_to_begin-requires-clause-inside
draw_to_begin-requires-clause-inside c = own_inside _ _ _ _ c.requires.0 _ c.args.act.now.kind c.requires.1

pub draw_used-requires-clause-fits : goal.draw_used-requires-clause-fits
draw_used-requires-clause-fits c = own_fits _ _ _ _ c.requires.0 _ c.args.act.now.kind c.requires.1

pub draw_side-requires-clause-decision : goal.draw_side-requires-clause-decision
draw_side-requires-clause-decision c =
    own_bit _ _ _ _ c.requires.0 _ c.args.act.now.kind c.requires.1 _ _ _ c.in_ok-value.ensures.used
    (c.decides.ensures (widths_at c.args.walk.now c.requires.0) c.args.act.now.site)
    c.if-decides.true

pub draw_side-requires-clause-kept : goal.draw_side-requires-clause-kept
draw_side-requires-clause-kept c = own_kept _ _ _ _ c.requires.0 _ c.args.act.now.kind c.requires.1 _ _ _ c.in_ok-draw_to_begin.ensures.step c.in_ok-value.ensures.extends

pub draw_side-requires-clause-inside : goal.draw_side-requires-clause-inside
draw_side-requires-clause-inside c = own_inside _ _ _ _ c.requires.0 _ c.args.act.now.kind c.requires.1

pub draw_side-requires-clause-pulse : goal.draw_side-requires-clause-pulse
draw_side-requires-clause-pulse c =
    own_pulse _ _ _ _ c.requires.0 _ c.args.act.now.kind c.requires.1 _ _ _ _ c.in_ok-draw_to_begin.ensures.step c.deref.ensures.value c.in_ok-draw_to_begin.ensures.begun c.in_ok-value.ensures.extends

pub returns-in_ok-add : goal.returns-in_ok-add
returns-in_ok-add c = λ scope plan.
    let begun = c.in_ok-draw_to_begin.ensures in
    let side = c.in_ok-side.ensures in
    let add = c.in_ok-add.ensures in
    choice_drawn _ _ _ _ scope _ c.args.act.now.kind plan _ _ _ _ _ _ begun.step begun.begun begun.values c.in_ok-value.ensures.extends c.in_ok-value.ensures.used (c.decides.ensures (widths_at c.args.walk.now scope) c.args.act.now.site) _ _ _ c.if-decides.true c.deref.ensures.value
    side.extends side.bit side.tells add.pulses add.values add.decisions add.sides

pub returns-in_ok-add-2 : goal.returns-in_ok-add-2
returns-in_ok-add-2 c = λ scope plan.
    let begun = c.in_ok-draw_to_begin.ensures in
    let add = c.in_ok-add-2.ensures in
    plain_drawn _ _ _ _ scope _ c.args.act.now.kind plan _ _ _ _ _ _ begun.step begun.begun begun.values c.in_ok-value.ensures.extends c.in_ok-value.ensures.used (c.decides.ensures (widths_at c.args.walk.now scope) c.args.act.now.site) _ _ c.if-decides.false c.zero.ensures
    c.zero-else-decides.ensures add.pulses add.values add.decisions add.sides
