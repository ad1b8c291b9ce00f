use Rattle.std.proofs.Common.{sym, subst}
use Rattle.module_nets.specs.Netlist.{OutsFit, NextsFit}
use Rattle.module_nets.proofs.Finished.{finished_is_well_formed}
use Rattle.module_nets.proofs.netlist.Netlist.finish.Goals as goal

pub new-requires : goal.new-requires
new-requires c =
    finished_is_well_formed c.args.proc c.self.inside.ports.items c.self.inside.regs.items c.self.inside.nets.items c.args.outs.items c.args.nexts.items
    c.self.invariant
    c.requires.name
    (subst (λ old. OutsFit old old.ports c.args.outs.items) (sym c.self.view_is) c.requires.outs)
    (subst (λ old. NextsFit old old.regs c.args.nexts.items) (sym c.self.view_is) c.requires.nexts)
