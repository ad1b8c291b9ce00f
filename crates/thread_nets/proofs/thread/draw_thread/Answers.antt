use Rattle.std.proofs.Common.{◌∙◌, ap, sym, subst}
use Rattle.pulse_nets.specs.Pulses.{pulse_at}
use Rattle.thread_nets.specs.declared.setting.Walk.{Walk}
use Rattle.thread_nets.specs.Body.{body_of, source_widths}
use Rattle.thread_nets.specs.Walk.{BodyDrawn}
use Rattle.thread_nets.proofs.Whole.{end_inside, end_is_bit, ground_from, last_there, placed_from, thread_drawn, turn_graph_of}
use Rattle.thread_nets.proofs.thread.draw_thread.Goals as goal

pub pulse_of-end-requires : goal.pulse_of-end-requires
pulse_of-end-requires c =
    let tails = c.in_ok-tails.ensures in
    let last = last_there _ _ c.requires.plan (turn_graph_of (source_widths c.args.setting.now) _ c.body-body.ensures.body) in
    end_inside c.args.setting.now.plan.now _ _ _ c.deref.ensures.value tails.count c.deref-3.ensures.value last.0

pub draw_begin-requires-clause-end : goal.draw_begin-requires-clause-end
draw_begin-requires-clause-end c =
    let tails = c.in_ok-tails.ensures in
    let last = last_there _ _ c.requires.plan (turn_graph_of (source_widths c.args.setting.now) _ c.body-body.ensures.body) in
    end_is_bit _ c.args.setting.now.plan.now _ _ _ _ _ _ c.deref.ensures.value tails.drawn c.deref-3.ensures.value c.pulse_of-end.ensures last

pub draw_body-requires-clause-ground : goal.draw_body-requires-clause-ground
draw_body-requires-clause-ground c =
    let tails = c.in_ok-tails.ensures in
    let begin = c.in_ok-begin.ensures in
    ground_from _ _ _ _ _ _ _ c.deref.ensures.value c.deref-2.ensures.value tails.extends begin.extends c.deref-4.ensures.value
    (placed_from _ c.args.setting.now.plan.now c.requires.plan _ c.requires.nodes c.requires.no_side)
    c.requires.places c.requires.states c.requires.kept c.requires.wires begin.bit tails.drawn tails.count

pub returns-clause-drawn : goal.returns-clause-drawn
returns-clause-drawn c =
    let begin = c.in_ok-begin.ensures in
    let last = last_there _ _ c.requires.plan (turn_graph_of (source_widths c.args.setting.now) _ c.body-body.ensures.body) in
    let walk : Walk = record { setting = c.args.setting.now; begin = c.in_ok-begin.begin; tails = c.deref-4.result } in
    let drawn : BodyDrawn c.draw_begin.new.netlist c.draw_body.new.netlist walk c.in_ok-drawn.drawn (body_of c.args.setting.now c.args.thread.now) =
    subst (λ body. BodyDrawn c.draw_begin.new.netlist c.draw_body.new.netlist walk c.in_ok-drawn.drawn (body_of c.args.setting.now body)) c.body-body.ensures.same c.in_ok-drawn.ensures in
    thread_drawn _ _ walk _ _ c.pulse_of-end.result _ drawn begin.bit begin.tells
    (c.pulse_of-end.ensures ∙ ap (λ list. (pulse_at list c.args.setting.now.plan.now.last).pulse) (c.deref-3.ensures.value ∙ sym c.deref-4.ensures.value))
    last
    c.nets_of.ensures
