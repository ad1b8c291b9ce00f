use Rattle.std.proofs.Common.{◌≡◌, true, length, refl, sym, ◌∙◌, subst, ap}
use Rattle.module_nets.specs.Bits.{told}
use Rattle.pulse_nets.specs.Pulses.{begins, form_of, ArePredecessorsDrawn}
use Rattle.machine_parts.specs.Parts.{bit_at, plan_at}
use Rattle.turn_nets.proofs.OneNode.{node_from_part, node_of_tail, part_for}
use Rattle.turn_nets.proofs.TailNodes.{tails_from}
use Rattle.turn_nets.proofs.tails.draw_tail.Goals as goal

pub draw_pulse-requires-clause-before : goal.draw_pulse-requires-clause-before
draw_pulse-requires-clause-before c =
    let nodes = c.args.setting.now.nodes.now in
    let before = c.args.before.now in
    let tail : (plan_at nodes (length before)).tail ≡ true = c.if-not-plan.false in
    subst (λ part. ArePredecessorsDrawn c.args.netlist.now before (form_of part.shape)) (sym c.part_of-part.ensures)
    (tails_from nodes c.requires.nodes c.args.setting.now.states.now c.args.netlist.now before c.requires.inside c.requires.before tail)

pub returns-clause-drawn : goal.returns-clause-drawn
returns-clause-drawn c event begin tail =
    let nodes = c.args.setting.now.nodes.now in
    let before = c.args.before.now in
    let plan = plan_at nodes (length before) in
    let state = bit_at c.args.setting.now.states.now (length before) in
    let is : c.part_of-part.result ≡ part_for plan state c.zero-nothing.result = c.part_of-part.ensures ∙ ap (λ state. part_for plan state c.zero-nothing.result) c.bit_of.ensures in
    node_of_tail nodes c.draw_pulse.new.netlist plan state (λ now. told now c.zero-nothing.result) (begins c.zero-nothing.result) event begin before c.in_ok-tail.tail tail (c.requires.nodes.tails (length before) c.requires.inside tail)
    (node_from_part c.args.netlist.now c.draw_pulse.new.netlist plan state c.zero-nothing.result (λ now. told now c.zero-nothing.result) (begins c.zero-nothing.result) before c.part_of-part.result c.in_ok-tail.tail
    c.in_ok-tail.ensures.extends is (λ now of. refl) c.in_ok-tail.ensures.bit c.in_ok-tail.ensures.known c.in_ok-tail.ensures.tells c.in_ok-tail.ensures.knows)
