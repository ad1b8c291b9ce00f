use Rattle.std.proofs.Common.{sym, subst}
use Rattle.machine_parts.specs.Nodes.{AreBits}
use Rattle.machine_parts.specs.Drafts.{NewestDrawn}
use Rattle.turn_nets.proofs.BitLists.{bits_later}
use Rattle.drawn_machine.proofs.Later.{thread_later}
use Rattle.fsm_builder.specs.Drafts.{drawn_body}
use Rattle.fsm_builder.proofs.threads.draw_draft.Goals as goal

pub draw_newest-requires-clause-kept : goal.draw_newest-requires-clause-kept
draw_newest-requires-clause-kept c =
    subst (λ kept. AreBits c.draw_thread.new.netlist kept) (sym c.as_slice-kept.ensures.value)
    (bits_later c.args.netlist.now c.draw_thread.new.netlist c.args.setting.now.states.now.newest.items c.in_ok-nets.ensures.extends c.requires.newest)

pub returns-clause-drawn : goal.returns-clause-drawn
returns-clause-drawn c =
    let setting = c.args.setting.now in
    let pulses : NewestDrawn c.draw_newest.new.netlist setting.plan.now c.as_slice-kept.result.now c.in_ok-nets.nets.pulses.items c.in_ok-newest.newest.items =
    subst (λ pulses. NewestDrawn c.draw_newest.new.netlist setting.plan.now c.as_slice-kept.result.now pulses c.in_ok-newest.newest.items) c.deref.ensures.value c.in_ok-newest.ensures.drawn in
    record {
      drawn = thread_later c.draw_thread.new.netlist c.draw_newest.new.netlist c.in_ok-newest.ensures.extends setting.registers.now setting.ports.now setting.wires.now
          (drawn_body setting.registers.now setting.ports.now c.args.thread.now) setting.plan.now setting.states.now c.in_ok-nets.nets c.in_ok-nets.ensures.drawn;
      newest = subst (λ kept. NewestDrawn c.draw_newest.new.netlist setting.plan.now kept c.in_ok-nets.nets.pulses.items c.in_ok-newest.newest.items) c.as_slice-kept.ensures.value pulses;
    }
