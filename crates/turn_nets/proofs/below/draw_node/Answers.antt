use Rattle.std.proofs.Common.{◌≡◌, true, length, sym, ◌∙◌, subst, ap, arith}
use Rattle.std.proofs.lemmas.List.{get_or_read}
use Rattle.module_nets.proofs.BitsTold.{bit_later}
use Rattle.pulse_nets.specs.Pulses.{begins, pulse_at, no_pulse, form_of, ArePredecessorsDrawn, PartStands}
use Rattle.machine_parts.specs.Parts.{bit_at, plan_at, form_in, event_told}
use Rattle.turn_nets.specs.Planned.{NodeDrawn}
use Rattle.turn_nets.proofs.OneNode.{part_stands, node_from_part, part_for}
use Rattle.turn_nets.proofs.FirstNodes.{nodes_from, tail_there, so_far_later}
use Rattle.turn_nets.proofs.below.draw_node.Goals as goal

pub returns-then-plan-clause-drawn : goal.returns-then-plan-clause-drawn
returns-then-plan-clause-drawn c =
    let nodes = c.args.setting.now.nodes.now in
    let states = c.args.setting.now.states.now in
    let wires = c.args.setting.now.wires.now in
    let decisions = c.args.decisions.now in
    let tails = c.args.tails.now in
    let before = c.args.before.now in
    let node = length before in
    let begin = begins c.args.begin.now in
    let tail : (plan_at nodes node).tail ≡ true = c.if-plan.true in
    let read : c.index-tails-node.result ≡ pulse_at tails node = get_or_read tails node c.index-tails-node.result (omega (arith, c.requires.inside, c.requires.tail_count)) c.index-tails-node.is no_pulse in
    subst (λ drawn. NodeDrawn c.args.netlist.now (plan_at nodes node) (bit_at states node) (λ now. event_told now wires decisions (plan_at nodes node).event) begin before drawn) (sym read)
    (tail_there nodes c.requires.nodes states wires decisions begin tails c.args.netlist.now before c.requires.inside c.requires.so_far c.requires.tails tail)

pub draw_pulse-requires-clause-before : goal.draw_pulse-requires-clause-before
draw_pulse-requires-clause-before c =
    let nodes = c.args.setting.now.nodes.now in
    let states = c.args.setting.now.states.now in
    let wires = c.args.setting.now.wires.now in
    let decisions = c.args.decisions.now in
    let tails = c.args.tails.now in
    let before = c.args.before.now in
    let begin = begins c.args.begin.now in
    let new = c.draw_event.new.netlist in
    subst (λ part. ArePredecessorsDrawn new before (form_of part.shape)) (sym c.part_of-part.ensures)
    (nodes_from nodes c.requires.nodes states wires decisions begin tails new before c.requires.inside
    (so_far_later c.args.netlist.now new nodes states wires decisions begin tails before c.in_ok-event.ensures.extends c.requires.so_far))

pub draw_pulse-requires-clause-part : goal.draw_pulse-requires-clause-part
draw_pulse-requires-clause-part c =
    let nodes = c.args.setting.now.nodes.now in
    let node = length c.args.before.now in
    let plan = plan_at nodes node in
    let state = bit_at c.args.setting.now.states.now node in
    let new = c.draw_event.new.netlist in
    let event = c.in_ok-event.event in
    let is : c.part_of-part.result ≡ part_for plan state event = c.part_of-part.ensures ∙ ap (λ state. part_for plan state event) c.bit_of.ensures in
    subst (λ part. PartStands new part.state part.event (form_of part.shape)) (sym is)
    (part_stands c.args.netlist.now new state event (form_in nodes node) c.in_ok-event.ensures.extends (c.requires.states node c.requires.inside) c.in_ok-event.ensures.bit)

pub draw_pulse-requires-clause-begin : goal.draw_pulse-requires-clause-begin
draw_pulse-requires-clause-begin c = bit_later c.args.netlist.now c.draw_event.new.netlist c.args.begin.now c.in_ok-event.ensures.extends c.requires.begin

pub returns-clause-drawn : goal.returns-clause-drawn
returns-clause-drawn c =
    let nodes = c.args.setting.now.nodes.now in
    let wires = c.args.setting.now.wires.now in
    let decisions = c.args.decisions.now in
    let before = c.args.before.now in
    let plan = plan_at nodes (length before) in
    let state = bit_at c.args.setting.now.states.now (length before) in
    let event = c.in_ok-event.event in
    let is : c.part_of-part.result ≡ part_for plan state event = c.part_of-part.ensures ∙ ap (λ state. part_for plan state event) c.bit_of.ensures in
    node_from_part c.draw_event.new.netlist c.draw_pulse.new.netlist plan state event (λ now. event_told now wires decisions plan.event) (begins c.args.begin.now) before c.part_of-part.result c.in_ok-drawn.drawn
    c.in_ok-drawn.ensures.extends is c.in_ok-event.ensures.tells c.in_ok-drawn.ensures.bit c.in_ok-drawn.ensures.known c.in_ok-drawn.ensures.tells c.in_ok-drawn.ensures.knows
