-- Each goal is one lemma of `Built` over the parts that the calls before it gave.
use Rattle.std.proofs.Common.{arith, ◌≡◌, ◌≤◌, length, List, sym, ◌∙◌, ap, subst}
use Rattle.std.specs.Prelude.{IsTrue, map, sum}
use Rattle.core_term.specs.ProcessView.{process_of}
use Rattle.sv_tree.specs.declared.tree.SvReg.{SvReg}
use Rattle.process_machine.specs.StateBits.{process_bound}
use Rattle.machine_parts.specs.Digits.{digits}
use Rattle.module_frame.specs.Bits.{frame_bits}
use Rattle.core_term.specs.declared.term.CoreTerm.{CoreTerm}
use Rattle.sv_tree.specs.WellFormed.{is_name}
use Rattle.source_signals.specs.Sources.{AreWide, numbered, register_signal, wire_signal, word_signal}
use Rattle.machine_parts.specs.Frames.{IsFrameOf}
use Rattle.machine_parts.specs.Nodes.{AreBits}
use Rattle.machine_parts.specs.Modules.{DraftStands, ModuleDrawn}
use Rattle.module_frame.specs.BitLaws.{ArePlansOf}
use Rattle.module_frame.specs.Drafts.{AreFew}
use Rattle.module_frame.proofs.Assembled.{sized_parts}
use Rattle.process_nets.specs.Kept.{IsKept}
use Rattle.process_nets.specs.Acts.{EachDraft}
use Rattle.drawn_machine.proofs.Sourced.{sources, wires, words}
use Rattle.machine_meaning.proofs.Agreement.{module_agrees, module_logs}
use Rattle.fsm_builder.specs.declared.threads.Sources.{Sources}
use Rattle.fsm_builder.specs.Drafts.{AreReady, DraftsDrawn, PlansAre}
use Rattle.fsm_builder.proofs.Built as built
use Rattle.fsm_builder.proofs.module.build.Goals as goal

pub frame_of-requires-clause-few : goal.frame_of-requires-clause-few
frame_of-requires-clause-few c =
    let proc = c.args.proc.now in
    let name = proc.name in
    let ports = proc.ports.items in
    let registers = proc.regs.items in
    let threads = proc.threads.items in
    let parts = sized_parts name ports registers threads proc.sized in
    let plans = c.in_ok-plans.plans.items in
    let plan_count : length plans ≡ length threads = c.in_ok-plans.ensures.count ∙ ap (λ (list : List CoreTerm). length list) c.deref.ensures.value in
    let plans_are : PlansAre threads plans = subst (λ bodies. PlansAre bodies plans) c.deref.ensures.value c.in_ok-plans.ensures.plans in
    subst (λ plans. AreFew plans) (sym c.deref-2.ensures.value) (built.are_few name ports registers threads c.stands.ensures proc.sized parts.ports_fit plans plan_count plans_are)

pub word_signals-requires-clause-wide : goal.word_signals-requires-clause-wide
word_signals-requires-clause-wide c =
    let proc = c.args.proc.now in
    let name = proc.name in
    let ports = proc.ports.items in
    let registers = proc.regs.items in
    let threads = proc.threads.items in
    let parts = sized_parts name ports registers threads proc.sized in
    let plans = c.in_ok-plans.plans.items in
    let plan_count : length plans ≡ length threads = c.in_ok-plans.ensures.count ∙ ap (λ (list : List CoreTerm). length list) c.deref.ensures.value in
    let plans_are : PlansAre threads plans = subst (λ bodies. PlansAre bodies plans) c.deref.ensures.value c.in_ok-plans.ensures.plans in
    subst (λ ports. AreWide ports) (sym c.deref-4.ensures.value) (built.wide name ports registers threads c.stands.ensures proc.sized parts.ports_fit plans plan_count plans_are)

pub draw_threads-requires-clause-ready : goal.draw_threads-requires-clause-ready
draw_threads-requires-clause-ready c =
    let proc = c.args.proc.now in
    let name = proc.name in
    let ports = proc.ports.items in
    let registers = proc.regs.items in
    let threads = proc.threads.items in
    let parts = sized_parts name ports registers threads proc.sized in
    let plans = c.in_ok-plans.plans.items in
    let plan_count : length plans ≡ length threads = c.in_ok-plans.ensures.count ∙ ap (λ (list : List CoreTerm). length list) c.deref.ensures.value in
    let plans_are : PlansAre threads plans = subst (λ bodies. PlansAre bodies plans) c.deref.ensures.value c.in_ok-plans.ensures.plans in
    let frame = c.in_ok-frame.frame in
    let frame_is : IsFrameOf ports registers plans frame = subst (λ plans. IsFrameOf ports registers plans frame) c.deref-2.ensures.value c.in_ok-frame.ensures.frame in
    let s : Sources = record { registers = c.deref-6.result; words = c.deref-7.result; wires = c.deref-8.result } in
    let registers_are : s.registers.now ≡ sources name ports registers threads = c.deref-6.ensures.value ∙ (c.in_ok-registers.ensures ∙ ap (λ list. numbered register_signal 0 list) c.deref-3.ensures.value) in
    let words_are : s.words.now ≡ words name ports registers threads = c.deref-7.ensures.value ∙ (c.in_ok-words.ensures ∙ ap (λ list. numbered word_signal 0 list) c.deref-4.ensures.value) in
    let wires_are : s.wires.now ≡ wires name ports registers threads = c.deref-8.ensures.value ∙ (c.in_ok-wires.ensures ∙ ap (λ list. numbered wire_signal 0 list) c.deref-5.ensures.value) in
    let old = c.new-netlist.result in
    let tree_ports : old.ports ≡ frame.ports.items = ap (λ m. m.ports) c.new-netlist.ensures in
    let tree_regs : old.regs ≡ frame.regs.items = ap (λ m. m.regs) c.new-netlist.ensures in
    subst (λ bodies. AreReady old s bodies c.deref-10.result.now c.deref-11.result.now c.len-count.result) (sym c.deref-9.ensures.value)
    (subst (λ plans. AreReady old s threads plans c.deref-11.result.now c.len-count.result) (sym c.deref-10.ensures.value)
    (subst (λ states. AreReady old s threads plans states c.len-count.result) (sym c.deref-11.ensures.value)
    (subst (λ many. AreReady old s threads plans frame.states.items many) (sym (grind (arith, c.len-count.ensures))) (built.all_ready name ports registers threads c.stands.ensures proc.sized parts.ports_fit plans plan_count plans_are frame frame_is s registers_are words_are wires_are old tree_ports tree_regs))))

pub finish_module-requires-clause-name : goal.finish_module-requires-clause-name
finish_module-requires-clause-name c =
    let proc = c.args.proc.now in
    let same = c.of-name.ensures ∙ c.bytes.ensures.bytes in
    subst (λ name. IsTrue (is_name name)) (sym same) (built.good_name proc.name proc.ports.items proc.regs.items proc.threads.items proc.sized c.bytes.ensures.few)

pub finish_module-requires-clause-kept : goal.finish_module-requires-clause-kept
finish_module-requires-clause-kept c =
    let proc = c.args.proc.now in
    let name = proc.name in
    let ports = proc.ports.items in
    let registers = proc.regs.items in
    let threads = proc.threads.items in
    let parts = sized_parts name ports registers threads proc.sized in
    let plans = c.in_ok-plans.plans.items in
    let plan_count : length plans ≡ length threads = c.in_ok-plans.ensures.count ∙ ap (λ (list : List CoreTerm). length list) c.deref.ensures.value in
    let plans_are : PlansAre threads plans = subst (λ bodies. PlansAre bodies plans) c.deref.ensures.value c.in_ok-plans.ensures.plans in
    let frame = c.in_ok-frame.frame in
    let frame_is : IsFrameOf ports registers plans frame = subst (λ plans. IsFrameOf ports registers plans frame) c.deref-2.ensures.value c.in_ok-frame.ensures.frame in
    let s : Sources = record { registers = c.deref-6.result; words = c.deref-7.result; wires = c.deref-8.result } in
    let registers_are : s.registers.now ≡ sources name ports registers threads = c.deref-6.ensures.value ∙ (c.in_ok-registers.ensures ∙ ap (λ list. numbered register_signal 0 list) c.deref-3.ensures.value) in
    let words_are : s.words.now ≡ words name ports registers threads = c.deref-7.ensures.value ∙ (c.in_ok-words.ensures ∙ ap (λ list. numbered word_signal 0 list) c.deref-4.ensures.value) in
    let wires_are : s.wires.now ≡ wires name ports registers threads = c.deref-8.ensures.value ∙ (c.in_ok-wires.ensures ∙ ap (λ list. numbered wire_signal 0 list) c.deref-5.ensures.value) in
    let old = c.new-netlist.result in
    let tree_ports : old.ports ≡ frame.ports.items = ap (λ m. m.ports) c.new-netlist.ensures in
    let tree_regs : old.regs ≡ frame.regs.items = ap (λ m. m.regs) c.new-netlist.ensures in
    let new = c.draw_threads.new.netlist in
    let new_ports : new.ports ≡ frame.ports.items = c.in_ok-drafts.ensures.extends.ports ∙ tree_ports in
    let new_regs : new.regs ≡ frame.regs.items = c.in_ok-drafts.ensures.extends.regs ∙ tree_regs in
    let drafts = c.in_ok-drafts.drafts.items in
    let count : length drafts ≡ length threads = c.in_ok-drafts.ensures.count ∙ ap (λ (list : List CoreTerm). length list) c.deref-9.ensures.value in
    let drawn : DraftsDrawn new s threads plans frame.states.items drafts =
    subst (λ bodies. DraftsDrawn new s bodies plans frame.states.items drafts) c.deref-9.ensures.value
    (subst (λ plans. DraftsDrawn new s c.deref-9.result.now plans frame.states.items drafts) c.deref-10.ensures.value
    (subst (λ states. DraftsDrawn new s c.deref-9.result.now c.deref-10.result.now states drafts) c.deref-11.ensures.value c.in_ok-drafts.ensures.drawn)) in
    let same_registers : c.deref-14.result.now ≡ s.registers.now = c.deref-14.ensures.value ∙ sym c.deref-6.ensures.value in
    let same_wires : c.deref-15.result.now ≡ s.wires.now = c.deref-15.ensures.value ∙ sym c.deref-8.ensures.value in
    subst (λ keeps. IsKept new keeps c.deref-14.result.now c.deref-16.result.now) (sym c.deref-13.ensures.value)
    (subst (λ read. IsKept new frame.keeps.items read c.deref-16.result.now) (sym same_registers)
    (subst (λ drafts. IsKept new frame.keeps.items s.registers.now drafts) (sym c.deref-16.ensures.value) (built.kept name ports registers threads c.stands.ensures proc.sized parts.ports_fit plans plan_count plans_are frame frame_is s registers_are words_are wires_are new new_ports new_regs drafts count drawn)))

pub finish_module-requires-clause-wires : goal.finish_module-requires-clause-wires
finish_module-requires-clause-wires c =
    let proc = c.args.proc.now in
    let name = proc.name in
    let ports = proc.ports.items in
    let registers = proc.regs.items in
    let threads = proc.threads.items in
    let parts = sized_parts name ports registers threads proc.sized in
    let plans = c.in_ok-plans.plans.items in
    let plan_count : length plans ≡ length threads = c.in_ok-plans.ensures.count ∙ ap (λ (list : List CoreTerm). length list) c.deref.ensures.value in
    let plans_are : PlansAre threads plans = subst (λ bodies. PlansAre bodies plans) c.deref.ensures.value c.in_ok-plans.ensures.plans in
    let frame = c.in_ok-frame.frame in
    let frame_is : IsFrameOf ports registers plans frame = subst (λ plans. IsFrameOf ports registers plans frame) c.deref-2.ensures.value c.in_ok-frame.ensures.frame in
    let s : Sources = record { registers = c.deref-6.result; words = c.deref-7.result; wires = c.deref-8.result } in
    let registers_are : s.registers.now ≡ sources name ports registers threads = c.deref-6.ensures.value ∙ (c.in_ok-registers.ensures ∙ ap (λ list. numbered register_signal 0 list) c.deref-3.ensures.value) in
    let words_are : s.words.now ≡ words name ports registers threads = c.deref-7.ensures.value ∙ (c.in_ok-words.ensures ∙ ap (λ list. numbered word_signal 0 list) c.deref-4.ensures.value) in
    let wires_are : s.wires.now ≡ wires name ports registers threads = c.deref-8.ensures.value ∙ (c.in_ok-wires.ensures ∙ ap (λ list. numbered wire_signal 0 list) c.deref-5.ensures.value) in
    let old = c.new-netlist.result in
    let tree_ports : old.ports ≡ frame.ports.items = ap (λ m. m.ports) c.new-netlist.ensures in
    let tree_regs : old.regs ≡ frame.regs.items = ap (λ m. m.regs) c.new-netlist.ensures in
    let new = c.draw_threads.new.netlist in
    let new_ports : new.ports ≡ frame.ports.items = c.in_ok-drafts.ensures.extends.ports ∙ tree_ports in
    let new_regs : new.regs ≡ frame.regs.items = c.in_ok-drafts.ensures.extends.regs ∙ tree_regs in
    let drafts = c.in_ok-drafts.drafts.items in
    let count : length drafts ≡ length threads = c.in_ok-drafts.ensures.count ∙ ap (λ (list : List CoreTerm). length list) c.deref-9.ensures.value in
    let drawn : DraftsDrawn new s threads plans frame.states.items drafts =
    subst (λ bodies. DraftsDrawn new s bodies plans frame.states.items drafts) c.deref-9.ensures.value
    (subst (λ plans. DraftsDrawn new s c.deref-9.result.now plans frame.states.items drafts) c.deref-10.ensures.value
    (subst (λ states. DraftsDrawn new s c.deref-9.result.now c.deref-10.result.now states drafts) c.deref-11.ensures.value c.in_ok-drafts.ensures.drawn)) in
    let same_registers : c.deref-14.result.now ≡ s.registers.now = c.deref-14.ensures.value ∙ sym c.deref-6.ensures.value in
    let same_wires : c.deref-15.result.now ≡ s.wires.now = c.deref-15.ensures.value ∙ sym c.deref-8.ensures.value in
    subst (λ wires. AreBits new wires) (sym same_wires) (built.wires_bits name ports registers threads c.stands.ensures proc.sized parts.ports_fit plans plan_count plans_are frame frame_is s registers_are words_are wires_are new new_ports new_regs drafts count drawn)

pub finish_module-requires-clause-drafts : goal.finish_module-requires-clause-drafts
finish_module-requires-clause-drafts c =
    let proc = c.args.proc.now in
    let name = proc.name in
    let ports = proc.ports.items in
    let registers = proc.regs.items in
    let threads = proc.threads.items in
    let parts = sized_parts name ports registers threads proc.sized in
    let plans = c.in_ok-plans.plans.items in
    let plan_count : length plans ≡ length threads = c.in_ok-plans.ensures.count ∙ ap (λ (list : List CoreTerm). length list) c.deref.ensures.value in
    let plans_are : PlansAre threads plans = subst (λ bodies. PlansAre bodies plans) c.deref.ensures.value c.in_ok-plans.ensures.plans in
    let frame = c.in_ok-frame.frame in
    let frame_is : IsFrameOf ports registers plans frame = subst (λ plans. IsFrameOf ports registers plans frame) c.deref-2.ensures.value c.in_ok-frame.ensures.frame in
    let s : Sources = record { registers = c.deref-6.result; words = c.deref-7.result; wires = c.deref-8.result } in
    let registers_are : s.registers.now ≡ sources name ports registers threads = c.deref-6.ensures.value ∙ (c.in_ok-registers.ensures ∙ ap (λ list. numbered register_signal 0 list) c.deref-3.ensures.value) in
    let words_are : s.words.now ≡ words name ports registers threads = c.deref-7.ensures.value ∙ (c.in_ok-words.ensures ∙ ap (λ list. numbered word_signal 0 list) c.deref-4.ensures.value) in
    let wires_are : s.wires.now ≡ wires name ports registers threads = c.deref-8.ensures.value ∙ (c.in_ok-wires.ensures ∙ ap (λ list. numbered wire_signal 0 list) c.deref-5.ensures.value) in
    let old = c.new-netlist.result in
    let tree_ports : old.ports ≡ frame.ports.items = ap (λ m. m.ports) c.new-netlist.ensures in
    let tree_regs : old.regs ≡ frame.regs.items = ap (λ m. m.regs) c.new-netlist.ensures in
    let new = c.draw_threads.new.netlist in
    let new_ports : new.ports ≡ frame.ports.items = c.in_ok-drafts.ensures.extends.ports ∙ tree_ports in
    let new_regs : new.regs ≡ frame.regs.items = c.in_ok-drafts.ensures.extends.regs ∙ tree_regs in
    let drafts = c.in_ok-drafts.drafts.items in
    let count : length drafts ≡ length threads = c.in_ok-drafts.ensures.count ∙ ap (λ (list : List CoreTerm). length list) c.deref-9.ensures.value in
    let drawn : DraftsDrawn new s threads plans frame.states.items drafts =
    subst (λ bodies. DraftsDrawn new s bodies plans frame.states.items drafts) c.deref-9.ensures.value
    (subst (λ plans. DraftsDrawn new s c.deref-9.result.now plans frame.states.items drafts) c.deref-10.ensures.value
    (subst (λ states. DraftsDrawn new s c.deref-9.result.now c.deref-10.result.now states drafts) c.deref-11.ensures.value c.in_ok-drafts.ensures.drawn)) in
    let same_registers : c.deref-14.result.now ≡ s.registers.now = c.deref-14.ensures.value ∙ sym c.deref-6.ensures.value in
    let same_wires : c.deref-15.result.now ≡ s.wires.now = c.deref-15.ensures.value ∙ sym c.deref-8.ensures.value in
    subst (λ read. EachDraft (DraftStands new read c.deref-12.result.now c.deref-15.result.now) c.deref-16.result.now) (sym same_registers)
    (subst (λ ports. EachDraft (DraftStands new s.registers.now ports c.deref-15.result.now) c.deref-16.result.now) (sym c.deref-12.ensures.value)
    (subst (λ wires. EachDraft (DraftStands new s.registers.now ports wires) c.deref-16.result.now) (sym same_wires)
    (subst (λ drafts. EachDraft (DraftStands new s.registers.now ports s.wires.now) drafts) (sym c.deref-16.ensures.value) (built.stand name ports registers threads c.stands.ensures proc.sized parts.ports_fit plans plan_count plans_are frame frame_is s registers_are words_are wires_are new new_ports new_regs drafts count drawn))))

pub returns-clause-parts : goal.returns-clause-parts
returns-clause-parts c =
    let proc = c.args.proc.now in
    let name = proc.name in
    let ports = proc.ports.items in
    let registers = proc.regs.items in
    let threads = proc.threads.items in
    let parts = sized_parts name ports registers threads proc.sized in
    let plans = c.in_ok-plans.plans.items in
    let plan_count : length plans ≡ length threads = c.in_ok-plans.ensures.count ∙ ap (λ (list : List CoreTerm). length list) c.deref.ensures.value in
    let plans_are : PlansAre threads plans = subst (λ bodies. PlansAre bodies plans) c.deref.ensures.value c.in_ok-plans.ensures.plans in
    let frame = c.in_ok-frame.frame in
    let frame_is : IsFrameOf ports registers plans frame = subst (λ plans. IsFrameOf ports registers plans frame) c.deref-2.ensures.value c.in_ok-frame.ensures.frame in
    let s : Sources = record { registers = c.deref-6.result; words = c.deref-7.result; wires = c.deref-8.result } in
    let registers_are : s.registers.now ≡ sources name ports registers threads = c.deref-6.ensures.value ∙ (c.in_ok-registers.ensures ∙ ap (λ list. numbered register_signal 0 list) c.deref-3.ensures.value) in
    let words_are : s.words.now ≡ words name ports registers threads = c.deref-7.ensures.value ∙ (c.in_ok-words.ensures ∙ ap (λ list. numbered word_signal 0 list) c.deref-4.ensures.value) in
    let wires_are : s.wires.now ≡ wires name ports registers threads = c.deref-8.ensures.value ∙ (c.in_ok-wires.ensures ∙ ap (λ list. numbered wire_signal 0 list) c.deref-5.ensures.value) in
    let old = c.new-netlist.result in
    let tree_ports : old.ports ≡ frame.ports.items = ap (λ m. m.ports) c.new-netlist.ensures in
    let tree_regs : old.regs ≡ frame.regs.items = ap (λ m. m.regs) c.new-netlist.ensures in
    let new = c.draw_threads.new.netlist in
    let new_ports : new.ports ≡ frame.ports.items = c.in_ok-drafts.ensures.extends.ports ∙ tree_ports in
    let new_regs : new.regs ≡ frame.regs.items = c.in_ok-drafts.ensures.extends.regs ∙ tree_regs in
    let drafts = c.in_ok-drafts.drafts.items in
    let count : length drafts ≡ length threads = c.in_ok-drafts.ensures.count ∙ ap (λ (list : List CoreTerm). length list) c.deref-9.ensures.value in
    let drawn : DraftsDrawn new s threads plans frame.states.items drafts =
    subst (λ bodies. DraftsDrawn new s bodies plans frame.states.items drafts) c.deref-9.ensures.value
    (subst (λ plans. DraftsDrawn new s c.deref-9.result.now plans frame.states.items drafts) c.deref-10.ensures.value
    (subst (λ states. DraftsDrawn new s c.deref-9.result.now c.deref-10.result.now states drafts) c.deref-11.ensures.value c.in_ok-drafts.ensures.drawn)) in
    let same_registers : c.deref-14.result.now ≡ s.registers.now = c.deref-14.ensures.value ∙ sym c.deref-6.ensures.value in
    let same_wires : c.deref-15.result.now ≡ s.wires.now = c.deref-15.ensures.value ∙ sym c.deref-8.ensures.value in
    built.parts name ports registers threads c.stands.ensures proc.sized parts.ports_fit plans plan_count plans_are frame frame_is s registers_are words_are wires_are new c.in_ok-made.made new_ports new_regs c.in_ok-made.ensures.extends (c.in_ok-made.ensures.name ∙ (c.of-name.ensures ∙ c.bytes.ensures.bytes)) parts.registers_fit

pub returns-clause-means : goal.returns-clause-means
returns-clause-means c =
    let proc = c.args.proc.now in
    let name = proc.name in
    let ports = proc.ports.items in
    let registers = proc.regs.items in
    let threads = proc.threads.items in
    let parts = sized_parts name ports registers threads proc.sized in
    let plans = c.in_ok-plans.plans.items in
    let plan_count : length plans ≡ length threads = c.in_ok-plans.ensures.count ∙ ap (λ (list : List CoreTerm). length list) c.deref.ensures.value in
    let plans_are : PlansAre threads plans = subst (λ bodies. PlansAre bodies plans) c.deref.ensures.value c.in_ok-plans.ensures.plans in
    let frame = c.in_ok-frame.frame in
    let frame_is : IsFrameOf ports registers plans frame = subst (λ plans. IsFrameOf ports registers plans frame) c.deref-2.ensures.value c.in_ok-frame.ensures.frame in
    let s : Sources = record { registers = c.deref-6.result; words = c.deref-7.result; wires = c.deref-8.result } in
    let registers_are : s.registers.now ≡ sources name ports registers threads = c.deref-6.ensures.value ∙ (c.in_ok-registers.ensures ∙ ap (λ list. numbered register_signal 0 list) c.deref-3.ensures.value) in
    let words_are : s.words.now ≡ words name ports registers threads = c.deref-7.ensures.value ∙ (c.in_ok-words.ensures ∙ ap (λ list. numbered word_signal 0 list) c.deref-4.ensures.value) in
    let wires_are : s.wires.now ≡ wires name ports registers threads = c.deref-8.ensures.value ∙ (c.in_ok-wires.ensures ∙ ap (λ list. numbered wire_signal 0 list) c.deref-5.ensures.value) in
    let old = c.new-netlist.result in
    let tree_ports : old.ports ≡ frame.ports.items = ap (λ m. m.ports) c.new-netlist.ensures in
    let tree_regs : old.regs ≡ frame.regs.items = ap (λ m. m.regs) c.new-netlist.ensures in
    let new = c.draw_threads.new.netlist in
    let new_ports : new.ports ≡ frame.ports.items = c.in_ok-drafts.ensures.extends.ports ∙ tree_ports in
    let new_regs : new.regs ≡ frame.regs.items = c.in_ok-drafts.ensures.extends.regs ∙ tree_regs in
    let drafts = c.in_ok-drafts.drafts.items in
    let count : length drafts ≡ length threads = c.in_ok-drafts.ensures.count ∙ ap (λ (list : List CoreTerm). length list) c.deref-9.ensures.value in
    let drawn : DraftsDrawn new s threads plans frame.states.items drafts =
    subst (λ bodies. DraftsDrawn new s bodies plans frame.states.items drafts) c.deref-9.ensures.value
    (subst (λ plans. DraftsDrawn new s c.deref-9.result.now plans frame.states.items drafts) c.deref-10.ensures.value
    (subst (λ states. DraftsDrawn new s c.deref-9.result.now c.deref-10.result.now states drafts) c.deref-11.ensures.value c.in_ok-drafts.ensures.drawn)) in
    let same_registers : c.deref-14.result.now ≡ s.registers.now = c.deref-14.ensures.value ∙ sym c.deref-6.ensures.value in
    let same_wires : c.deref-15.result.now ≡ s.wires.now = c.deref-15.ensures.value ∙ sym c.deref-8.ensures.value in
    let gives : ModuleDrawn c.in_ok-made.made frame.keeps.items ports s.registers.now s.wires.now drafts =
    subst (λ keeps. ModuleDrawn c.in_ok-made.made keeps ports s.registers.now s.wires.now drafts) c.deref-13.ensures.value
    (subst (λ ports. ModuleDrawn c.in_ok-made.made c.deref-13.result.now ports s.registers.now s.wires.now drafts) c.deref-12.ensures.value
    (subst (λ read. ModuleDrawn c.in_ok-made.made c.deref-13.result.now c.deref-12.result.now read s.wires.now drafts) same_registers
    (subst (λ wires. ModuleDrawn c.in_ok-made.made c.deref-13.result.now c.deref-12.result.now c.deref-14.result.now wires drafts) same_wires
    (subst (λ drafts. ModuleDrawn c.in_ok-made.made c.deref-13.result.now c.deref-12.result.now c.deref-14.result.now c.deref-15.result.now drafts) c.deref-16.ensures.value c.in_ok-made.ensures.drawn)))) in
    built.means name ports registers threads c.stands.ensures proc.sized parts.ports_fit plans plan_count plans_are frame frame_is s registers_are words_are wires_are new new_ports new_regs drafts count drawn c.in_ok-made.made c.in_ok-made.ensures.extends c.in_ok-made.ensures.well_formed gives

pub returns-clause-agrees : goal.returns-clause-agrees
returns-clause-agrees c = λ keeps.
    let proc = c.args.proc.now in
    module_agrees (process_of proc.name proc.ports.items proc.regs.items proc.threads.items) c.stands.ensures keeps c.in_ok-made.made (returns-clause-means c)

pub returns-clause-logs : goal.returns-clause-logs
returns-clause-logs c = λ keeps.
    let proc = c.args.proc.now in
    module_logs (process_of proc.name proc.ports.items proc.regs.items proc.threads.items) c.stands.ensures keeps c.in_ok-made.made (returns-clause-means c)

pub returns-clause-bits : goal.returns-clause-bits
returns-clause-bits c =
    let proc = c.args.proc.now in
    let name = proc.name in
    let ports = proc.ports.items in
    let registers = proc.regs.items in
    let threads = proc.threads.items in
    let parts = sized_parts name ports registers threads proc.sized in
    let plans = c.in_ok-plans.plans.items in
    let plan_count : length plans ≡ length threads = c.in_ok-plans.ensures.count ∙ ap (λ (list : List CoreTerm). length list) c.deref.ensures.value in
    let plans_are : PlansAre threads plans = subst (λ bodies. PlansAre bodies plans) c.deref.ensures.value c.in_ok-plans.ensures.plans in
    let frame = c.in_ok-frame.frame in
    let frame_is : IsFrameOf ports registers plans frame = subst (λ plans. IsFrameOf ports registers plans frame) c.deref-2.ensures.value c.in_ok-frame.ensures.frame in
    let s : Sources = record { registers = c.deref-6.result; words = c.deref-7.result; wires = c.deref-8.result } in
    let registers_are : s.registers.now ≡ sources name ports registers threads = c.deref-6.ensures.value ∙ (c.in_ok-registers.ensures ∙ ap (λ list. numbered register_signal 0 list) c.deref-3.ensures.value) in
    let words_are : s.words.now ≡ words name ports registers threads = c.deref-7.ensures.value ∙ (c.in_ok-words.ensures ∙ ap (λ list. numbered word_signal 0 list) c.deref-4.ensures.value) in
    let wires_are : s.wires.now ≡ wires name ports registers threads = c.deref-8.ensures.value ∙ (c.in_ok-wires.ensures ∙ ap (λ list. numbered wire_signal 0 list) c.deref-5.ensures.value) in
    let old = c.new-netlist.result in
    let tree_ports : old.ports ≡ frame.ports.items = ap (λ m. m.ports) c.new-netlist.ensures in
    let tree_regs : old.regs ≡ frame.regs.items = ap (λ m. m.regs) c.new-netlist.ensures in
    let new = c.draw_threads.new.netlist in
    let new_ports : new.ports ≡ frame.ports.items = c.in_ok-drafts.ensures.extends.ports ∙ tree_ports in
    let new_regs : new.regs ≡ frame.regs.items = c.in_ok-drafts.ensures.extends.regs ∙ tree_regs in
    let drafts = c.in_ok-drafts.drafts.items in
    let count : length drafts ≡ length threads = c.in_ok-drafts.ensures.count ∙ ap (λ (list : List CoreTerm). length list) c.deref-9.ensures.value in
    let drawn : DraftsDrawn new s threads plans frame.states.items drafts =
    subst (λ bodies. DraftsDrawn new s bodies plans frame.states.items drafts) c.deref-9.ensures.value
    (subst (λ plans. DraftsDrawn new s c.deref-9.result.now plans frame.states.items drafts) c.deref-10.ensures.value
    (subst (λ states. DraftsDrawn new s c.deref-9.result.now c.deref-10.result.now states drafts) c.deref-11.ensures.value c.in_ok-drafts.ensures.drawn)) in
    let same_registers : c.deref-14.result.now ≡ s.registers.now = c.deref-14.ensures.value ∙ sym c.deref-6.ensures.value in
    let same_wires : c.deref-15.result.now ≡ s.wires.now = c.deref-15.ensures.value ∙ sym c.deref-8.ensures.value in
    let few : frame_bits frame ≤ process_bound digits (process_of name ports registers threads) =
    c.in_ok-frame.ensures.bound (subst (λ plans. ArePlansOf (process_of name ports registers threads).threads plans) (sym c.deref-2.ensures.value) (built.are_plans name ports registers threads c.stands.ensures proc.sized parts.ports_fit plans plan_count plans_are)) in
    subst (λ (regs : List SvReg). sum (map (λ r. r.width) regs) ≤ process_bound digits (process_of name ports registers threads)) (sym (c.in_ok-made.ensures.extends.regs ∙ new_regs)) few
