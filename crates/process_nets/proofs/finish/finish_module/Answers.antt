use Rattle.std.proofs.Common.{◌≡◌, ◌<◌, true, List, length, ◌∙◌, subst, ap}
use Rattle.std.specs.List.{list_all}
use Rattle.std.proofs.lemmas.List.{length-map}
use Rattle.sv_tree.specs.declared.tree.SvPort.{SvPort}
use Rattle.sv_tree.specs.Module.{Module}
use Rattle.sv_tree.specs.Limits.{too_many}
use Rattle.sv_tree.specs.WellFormed.{is_width}
use Rattle.machine_parts.specs.Frames.{port_of}
use Rattle.process_nets.proofs.Kept.{nexts_later}
use Rattle.process_nets.proofs.Ports.{port_stands_later}
use Rattle.process_nets.proofs.Finished.{all_drawn, keeps_stand, nexts_all_fit, outs_all_fit, ports_stand}
use Rattle.process_nets.proofs.finish.finish_module.Goals as goal

pub draw_nexts-requires-clause-keeps : goal.draw_nexts-requires-clause-keeps
draw_nexts-requires-clause-keeps c =
    keeps_stand c.args.netlist c.args.keeps.now c.args.registers.now c.args.drafts.now c.requires.kept c.args.ports.now c.args.wires.now c.requires.drafts

pub draw_outs-requires-clause-few : goal.draw_outs-requires-clause-few
draw_outs-requires-clause-few c =
    let ports = ap (λ (tree : Module). tree.ports) c.netlist.view_is ∙ (c.in_ok-nexts.ensures.extends.ports ∙ c.requires.ports) in
    subst (λ many. many < too_many) (ap (λ (list : List SvPort). length list) ports ∙ length-map c.args.ports.now port_of) c.netlist.invariant.frame.few_ports

pub draw_outs-requires-clause-ports : goal.draw_outs-requires-clause-ports
draw_outs-requires-clause-ports c =
    λ port is get.
    let ports = ap (λ (tree : Module). tree.ports) c.netlist.view_is ∙ (c.in_ok-nexts.ensures.extends.ports ∙ c.requires.ports) in
    let widths = subst (λ list. list_all (λ (p : SvPort). is_width p.width) list ≡ true) ports c.netlist.invariant.frame.port_widths in
    port_stands_later _ _ c.in_ok-nexts.ensures.extends c.args.drafts.now port is
    (ports_stand c.args.netlist c.args.registers.now c.args.ports.now c.args.wires.now c.args.drafts.now widths c.requires.drafts port is get)

pub finish-requires-clause-outs : goal.finish-requires-clause-outs
finish-requires-clause-outs c =
    let one = c.in_ok-nexts.ensures.extends in
    let two = c.in_ok-outs.ensures.extends in
    outs_all_fit c.draw_outs.new.netlist c.draw_outs.new.netlist.ports c.args.ports.now c.args.drafts.now c.in_ok-outs.outs.items (two.ports ∙ (one.ports ∙ c.requires.ports))
    c.in_ok-outs.ensures.count c.in_ok-outs.ensures.drawn

pub finish-requires-clause-nexts : goal.finish-requires-clause-nexts
finish-requires-clause-nexts c =
    let one = c.in_ok-nexts.ensures.extends in
    let two = c.in_ok-outs.ensures.extends in
    nexts_all_fit c.args.netlist c.draw_outs.new.netlist c.args.keeps.now c.args.registers.now c.args.wires.now c.args.drafts.now c.requires.kept (two.regs ∙ one.regs) c.in_ok-nexts.nexts.items
    (nexts_later _ _ two c.args.registers.now c.args.wires.now c.args.drafts.now c.args.keeps.now c.in_ok-nexts.nexts.items _ c.in_ok-nexts.ensures.drawn)
    c.in_ok-nexts.ensures.count

pub returns-clause-drawn : goal.returns-clause-drawn
returns-clause-drawn c =
    let one = c.in_ok-nexts.ensures.extends in
    let two = c.in_ok-outs.ensures.extends in
    all_drawn c.args.netlist c.draw_outs.new.netlist c.args.keeps.now c.args.registers.now c.args.wires.now c.args.drafts.now c.requires.kept (two.regs ∙ one.regs) c.in_ok-nexts.nexts.items
    (nexts_later _ _ two c.args.registers.now c.args.wires.now c.args.drafts.now c.args.keeps.now c.in_ok-nexts.nexts.items _ c.in_ok-nexts.ensures.drawn)
    c.finish.result c.args.ports.now c.in_ok-outs.outs.items c.finish.ensures.extends (ap (λ (tree : Module). tree.nexts) c.finish.ensures.exact)
    (ap (λ (tree : Module). tree.outs) c.finish.ensures.exact) c.in_ok-outs.ensures.drawn
