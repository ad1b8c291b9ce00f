use Rattle.std.proofs.Common.{◌==◌, ◌∙◌, ap}
use Rattle.module_nets.specs.Bits.{IsBit}
use Rattle.module_nets.proofs.Outcomes.{IfOk-joined}
use Rattle.module_nets.proofs.BitsTold.{inverse_is_told}
use Rattle.module_nets.proofs.netlist.Netlist.invert.Goals as goal

pub returns-clause-tells : goal.returns-clause-tells
returns-clause-tells c =
    let is : IsBit c.args.self.now c.args.operand.now = record { stands = c.requires.stands; one_bit = c.requires.one_bit } in
    IfOk-joined c.not.result _ _ _
    (λ drawn extends shows now of. ap (λ value. value == 1) (shows now of) ∙ inverse_is_told c.args.self.now c.not.new.self now c.args.operand.now extends is of)
    c.not.ensures.extends
    c.not.ensures.shows
