use Rattle.std.proofs.Common.{◌≡◌, List, not, sym, ◌∙◌, ap, rules}
use Rattle.module_nets.specs.declared.signal.Signal.{Signal}
use Rattle.pulse_nets.specs.declared.node.Part.{Part}
use Rattle.pulse_nets.specs.Pulses.{form_of, pulse_at}
use Rattle.machine_parts.specs.declared.plan.NodePlan.{NodePlan}
use Rattle.machine_parts.specs.Parts.{bit_at, event_told, plan_at}
use Rattle.process_nets.proofs.NodeStates.{needs_there, next_there}
use Rattle.process_nets.proofs.states.draw_state.Goals as goal

pub draw_next-requires : goal.draw_next-requires
draw_next-requires c =
    let draft = c.args.draft.now in
    let node = c.args.node in
    let plan : c.plan_of-plan.result ≡ plan_at draft.plan.now.nodes.items node = search rules in
    let state : c.bit_of.result ≡ bit_at draft.states.now.nodes.items node = search rules in
    let pulse : c.pulse_of-pulse.result ≡ pulse_at draft.nets.pulses.items node = search rules in
    let part : Part = record { shape = c.plan_of-plan.result.shape; forgets = not c.plan_of-plan.result.tail; state = c.bit_of.result; event = c.in_ok-event.event } in
    needs_there draft node part state _ _ c.in_ok-event.ensures.extends c.requires.nodes c.in_ok-event.ensures.bit c.requires.within
    (form_of c.plan_of-plan.result.shape) (sym (ap (λ (p : NodePlan). form_of p.shape) plan)) c.requires.keeps c.deref-5.result.now _ c.deref-5.ensures.value pulse

pub returns-clause-next : goal.returns-clause-next
returns-clause-next c =
    let draft = c.args.draft.now in
    let node = c.args.node in
    let plan : c.plan_of-plan.result ≡ plan_at draft.plan.now.nodes.items node = search rules in
    let state : c.bit_of.result ≡ bit_at draft.states.now.nodes.items node = search rules in
    let pulse : c.pulse_of-pulse.result ≡ pulse_at draft.nets.pulses.items node = search rules in
    let part : Part = record { shape = c.plan_of-plan.result.shape; forgets = not c.plan_of-plan.result.tail; state = c.bit_of.result; event = c.in_ok-event.event } in
    next_there draft node part state _ _ c.in_ok-next.ensures.extends c.args.wires.now
    (λ now of.
    c.in_ok-event.ensures.tells now of
    ∙ (ap (λ (list : List Signal). event_told now c.args.wires.now list c.plan_of-plan.result.event) c.deref-2.ensures.value
    ∙ ap (λ (p : NodePlan). event_told now c.args.wires.now draft.nets.decisions.items p.event) plan))
    c.in_ok-next.next
    (form_of c.plan_of-plan.result.shape) (sym (ap (λ (p : NodePlan). form_of p.shape) plan)) c.deref-5.result.now _ c.deref-5.ensures.value pulse c.in_ok-next.ensures.next
