use Rattle.std.proofs.Common.{◌==◌, ◌∙◌, ap}
use Rattle.module_nets.proofs.Outcomes.{IfOk-joined}
use Rattle.module_nets.proofs.BitsTold.{or_is_told}
use Rattle.module_nets.proofs.netlist.Netlist.or.Goals as goal

pub returns-clause-tells : goal.returns-clause-tells
returns-clause-tells c =
    IfOk-joined c.bin.result _ _ _
    (λ drawn extends shows now of.
    ap (λ value. value == 1) (shows now of)
    ∙ or_is_told c.args.self.now c.bin.new.self now c.args.left.now c.args.right.now extends c.requires.left c.requires.right of)
    c.bin.ensures.extends
    c.bin.ensures.shows
