use Rattle.std.proofs.Common.{◌≡◌, ◌<◌, length, sym, subst, arith}
use Rattle.module_nets.proofs.Growing.{extends_on}
use Rattle.turn_nets.specs.Planned.{TailDrawn, TailsSoFar}
use Rattle.turn_nets.proofs.OneNode.{states_later}
use Rattle.turn_nets.proofs.TailNodes.{tails_pushed, tails_all}
use Rattle.turn_nets.proofs.tails.draw_tails.Goals as goal

pub draw_tail-requires-clause-states : goal.draw_tail-requires-clause-states
draw_tail-requires-clause-states c =
    states_later c.args.netlist.now c.loop-node.netlist c.args.setting.now.nodes.now c.args.setting.now.states.now c.loop-node.invariant.extends c.requires.states

pub draw_tail-requires-clause-before : goal.draw_tail-requires-clause-before
draw_tail-requires-clause-before c =
    subst (λ tails. TailsSoFar c.loop-node.netlist c.args.setting.now.nodes.now c.args.setting.now.states.now tails) (sym c.deref.ensures.value) c.loop-node.invariant.drawn

pub loop-node-preserved : goal.loop-node-preserved
loop-node-preserved c =
    let nodes = c.args.setting.now.nodes.now in
    let states = c.args.setting.now.states.now in
    let tails = c.loop-node.tails.items in
    let tail = c.in_ok-tail.tail in
    let new = c.draw_tail.new.netlist in
    let room : length tails < length nodes = omega (arith, c.loop-node-test.true, c.loop-node.invariant.count) in
    record {
      extends = extends_on _ _ _ c.loop-node.invariant.extends c.in_ok-tail.ensures.extends;
      count = omega (arith, c.in_ok-push.ensures.len, c.loop-node.invariant.count);
      drawn =
          subst (λ list. TailsSoFar new nodes states list) (sym c.in_ok-push.ensures.items)
          (tails_pushed nodes c.requires.nodes states c.loop-node.netlist new tails tail c.in_ok-tail.ensures.extends room c.loop-node.invariant.drawn
          (subst (λ list. TailDrawn new nodes states (length list) list tail) c.deref.ensures.value c.in_ok-tail.ensures.drawn));
    }

pub returns-clause-drawn : goal.returns-clause-drawn
returns-clause-drawn c =
    let nodes = c.args.setting.now.nodes.now in
    let tails = c.loop-node.tails.items in
    let count : length tails ≡ length nodes = omega (arith, c.loop-node-test.false, c.loop-node.invariant.count, c.loop-node.auto._node-end) in
    tails_all nodes c.requires.nodes c.args.setting.now.states.now c.loop-node.netlist c.args.setting.now.wires.now tails count c.loop-node.invariant.drawn
