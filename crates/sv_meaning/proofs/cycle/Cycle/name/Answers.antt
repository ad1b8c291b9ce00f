use Rattle.std.proofs.Common.{IsTrue, length, subst}
use Rattle.sv_tree.specs.WellFormed.{ref_stands}
use Rattle.sv_meaning.proofs.Nets.{net_read}
use Rattle.sv_meaning.proofs.cycle.Cycle.name.Goals as goal

pub returns-in-Net : goal.returns-in-Net
returns-in-Net c =
    let stands = subst (λ name. IsTrue (ref_stands c.args.self.now.module.now (length c.args.nets.now) name)) c.in-Net.is c.requires.stands in
    let shown = net_read _ _ c.in-Net.net _ c.requires.nets stands c.index-nets-net.is in
    rw c.in-Net.is shown
