use Rattle.std.proofs.Common.{◌≡◌, ◌+◌, ◌<◌, true, length, sym, ◌∙◌, subst, arith}
use Rattle.module_nets.proofs.Growing.{extends_on}
use Rattle.module_nets.proofs.BitsTold.{bit_later}
use Rattle.pulse_nets.specs.Pulses.{begins, pulse_at}
use Rattle.machine_parts.specs.Parts.{bit_at, plan_at, event_told}
use Rattle.machine_parts.specs.Nodes.{PulsesSoFar, WaitBelow}
use Rattle.turn_nets.specs.Planned.{NodeDrawn}
use Rattle.turn_nets.proofs.BitLists.{bits_later}
use Rattle.turn_nets.proofs.OneNode.{states_later}
use Rattle.turn_nets.proofs.TailNodes.{tails_later, kept_pushed}
use Rattle.turn_nets.proofs.FirstNodes.{so_far_pushed}
use Rattle.turn_nets.proofs.below.draw_below.Goals as goal

pub draw_node-requires-clause-states : goal.draw_node-requires-clause-states
draw_node-requires-clause-states c =
    states_later c.args.netlist.now c.loop-node.netlist c.args.setting.now.nodes.now c.args.setting.now.states.now c.loop-node.invariant.extends c.requires.states

pub draw_node-requires-clause-wires : goal.draw_node-requires-clause-wires
draw_node-requires-clause-wires c = bits_later c.args.netlist.now c.loop-node.netlist c.args.setting.now.wires.now c.loop-node.invariant.extends c.requires.wires

pub draw_node-requires-clause-decisions : goal.draw_node-requires-clause-decisions
draw_node-requires-clause-decisions c = bits_later c.args.netlist.now c.loop-node.netlist c.args.decisions.now c.loop-node.invariant.extends c.requires.decisions

pub draw_node-requires-clause-begin : goal.draw_node-requires-clause-begin
draw_node-requires-clause-begin c = bit_later c.args.netlist.now c.loop-node.netlist c.args.begin.now c.loop-node.invariant.extends c.requires.begin

pub draw_node-requires-clause-tails : goal.draw_node-requires-clause-tails
draw_node-requires-clause-tails c =
    tails_later c.args.netlist.now c.loop-node.netlist c.args.setting.now.nodes.now c.args.setting.now.states.now c.args.setting.now.wires.now c.args.tails.now c.loop-node.invariant.extends c.requires.tails

pub draw_node-requires-clause-inside : goal.draw_node-requires-clause-inside
draw_node-requires-clause-inside c =
    let room : length c.loop-node.pulses.items < length c.args.setting.now.nodes.now = omega (arith, c.loop-node-test.true, c.loop-node.invariant.count, c.requires.bound) in
    subst (λ list. length list < length c.args.setting.now.nodes.now) (sym c.deref.ensures.value) room

pub draw_node-requires-clause-so_far : goal.draw_node-requires-clause-so_far
draw_node-requires-clause-so_far c =
    subst
    (λ list. PulsesSoFar c.loop-node.netlist c.args.setting.now.nodes.now c.args.setting.now.states.now c.args.setting.now.wires.now c.args.decisions.now (begins c.args.begin.now) c.args.tails.now list)
    (sym c.deref.ensures.value) c.loop-node.invariant.so_far

pub loop-node-preserved : goal.loop-node-preserved
loop-node-preserved c =
    let nodes = c.args.setting.now.nodes.now in
    let states = c.args.setting.now.states.now in
    let wires = c.args.setting.now.wires.now in
    let decisions = c.args.decisions.now in
    let tails = c.args.tails.now in
    let begin = begins c.args.begin.now in
    let pulses = c.loop-node.pulses.items in
    let pulse = c.in_ok-pulse.pulse in
    let new = c.draw_node.new.netlist in
    let below : length pulses < c.args.bound = omega (arith, c.loop-node-test.true, c.loop-node.invariant.count) in
    let room : length pulses < length nodes = omega (arith, below, c.requires.bound) in
    let waits : WaitBelow nodes (length pulses + 1) (length decisions) = λ node place first less. c.requires.known node place first (omega (arith, less, below)) in
    let drawn : NodeDrawn new (plan_at nodes (length pulses)) (bit_at states (length pulses)) (λ now. event_told now wires decisions (plan_at nodes (length pulses)).event) begin pulses pulse =
    subst (λ list. NodeDrawn new (plan_at nodes (length list)) (bit_at states (length list)) (λ now. event_told now wires decisions (plan_at nodes (length list)).event) begin list pulse)
    c.deref.ensures.value c.in_ok-pulse.ensures.drawn in
    let same : (plan_at nodes (length pulses)).tail ≡ true → pulse ≡ pulse_at tails (length pulses) =
    subst (λ list. (plan_at nodes (length list)).tail ≡ true → pulse ≡ pulse_at tails (length list)) c.deref.ensures.value c.in_ok-pulse.ensures.same in
    record {
      extends = extends_on _ _ _ c.loop-node.invariant.extends c.in_ok-pulse.ensures.extends;
      count = omega (arith, c.in_ok-push.ensures.len, c.loop-node.invariant.count);
      longer = omega (arith, c.in_ok-push.ensures.len, c.loop-node.invariant.longer);
      kept = λ node within.
          subst (λ list. pulse_at list node ≡ pulse_at c.args.pulses.now.items node) (sym c.in_ok-push.ensures.items)
          (sym (kept_pushed pulses pulse node (omega (arith, within, c.loop-node.invariant.longer))) ∙ c.loop-node.invariant.kept node within);
      so_far =
          subst (λ list. PulsesSoFar new nodes states wires decisions begin tails list) (sym c.in_ok-push.ensures.items)
          (so_far_pushed nodes c.requires.nodes states wires decisions begin tails c.loop-node.netlist new pulses pulse c.in_ok-pulse.ensures.extends room waits c.loop-node.invariant.so_far drawn same);
    }
